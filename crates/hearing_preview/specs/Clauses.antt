-- What only contracts below the public operations cite. Nothing here need be believed.
use Rattle.std.specs.Prelude.{◌≡◌, List, ℕ, Ok}
use Rattle.refusal.specs.Judge.{judge}
use Rattle.code.specs.declared.Code.{Code}
use Rattle.hearing.specs.Hearing.{add_refusals}
use Rattle.hearing_state.specs.State.{code_of_state}
use Rattle.hearing_buffer.specs.Lent.{state_in}

-- a vector that may be added to the state in a buffer, whose code is c
pub record MayAdd (c : Code) (b channel : List ℕ) : Type 0 where
  pub code_is : code_of_state (state_in b) ≡ Ok c
  pub fine : judge (add_refusals c (state_in b).hearing.count channel) ≡ Ok tt
