-- What only contracts below the public operations cite. Nothing here need be believed.
use Rattle.std.specs.Prelude.{List, ℕ, ◌+◌, get_or, take, drop, Result}
use Rattle.code.specs.Code.{longest_description}
use Rattle.hearing_state.specs.State.{State}
use Rattle.hearing_state.specs.Clauses.{state_by}
use Rattle.refusal.specs.declared.Refusal.{Refusal}

-- what a call on a state in a buffer answers: the count of hearings
abbrev pub Kept : Type 0
Kept = Result ℕ Refusal

-- the state that has these bytes, as many as the size of a buffer
abbrev pub state_at : List ℕ → State
state_at b = state_by (take longest_description b) (get_or b longest_description 0) (drop (1 + longest_description) b)
