-- What only contracts below the public operations cite. Nothing here need be believed.
use Rattle.std.specs.Prelude.{◌≡◌, List, ℕ, ◌^◌, ◌≤◌, length, Ok}
use Rattle.refusal.specs.Judge.{judge, refused_or}
use Rattle.arrays.specs.Sizes.{largest_n}
use Rattle.code.specs.declared.Code.{Code}
use Rattle.code.specs.Code.{code_length, longest_description}
use Rattle.code.specs.Description.{describe}
use Rattle.code.specs.Record.{record_in}
use Rattle.hearing.specs.Hearing.{added_to, add_refusals}
use Rattle.hearing_state.specs.State.{State, refused_in, with_hearing}
use Rattle.refusal.specs.Clauses.{Judgement}

-- a state by its parts
abbrev pub state_by : List ℕ → ℕ → List ℕ → State
state_by description count values = record { description = description; hearing = record { values = values; count = count } }

-- add under a code: 12, 13 and 27, then the sums
abbrev pub added_under : Code → State → List ℕ → Judgement × State
added_under c s channel =
    refused_or (judge (add_refusals c s.hearing.count channel)) (refused_in s)
    (Ok tt, with_hearing s (added_to c s.hearing channel))

-- arrays of the sizes that a state has
pub record StatePre (description values : List ℕ) : Type 0 where
  pub description_size : length description ≡ longest_description
  pub values_size : length values ≡ 2 ^ largest_n

-- a description at the beginning of some bytes, and values for its code
pub record DecodePre (c : Code) (bytes values : List ℕ) : Type 0 where
  pub field : 2 ≤ length bytes
  pub describes : describe (record_in bytes) ≡ Ok c
  pub room : code_length c ≤ length values
