-- Document 02, request 2.6: what is kept from one call to the next, the description of a code and its hearing, and the operations on it. An
-- operation that may change a state is a pair: what it answers, and the state afterwards.
use Rattle.std.specs.Prelude.{Bool, ◌&&◌, cond, List, [], ℕ, length, drop, Err, Ok, Result}
use Rattle.refusal.specs.declared.Refusal.{Refusal}
use Rattle.refusal.specs.Judge.{judge, refused_or}
use Rattle.arrays.specs.Padded.{padded, all_zero}
use Rattle.code.specs.declared.Code.{Code}
use Rattle.code.specs.Code.{longest_description}
use Rattle.code.specs.Description.{describe, on_description}
use Rattle.code.specs.Record.{record_in}
use Rattle.flip_trial.specs.declared.Restart.{Restart}
use Rattle.decoder.specs.Decoder.{single, decoded_as}
use Rattle.hearing.specs.Hearing.{Hearing, fresh, combined, added_to, add_refusals, is_hearing}
use Rattle.refusal.specs.declared.Refusal.TheVariants.{NotAState}
use Rattle.flip_run.specs.declared.DecodingError.TheVariants.{Refused}
use Rattle.flip_run.specs.declared.Tally.{Tally}
use Rattle.flip_run.specs.declared.DecodingError.{DecodingError}

-- what is kept from one call to the next
pub record State : Type 0 where
  -- the description of the code, and zeros after it
  pub description : List ℕ
  -- the combined values and their count
  pub hearing : Hearing

-- a state by its description, which zeros follow, and its hearing
abbrev pub state_of : List ℕ → Hearing → State
state_of d h = record { description = padded longest_description d; hearing = h }

-- no state: it has no description, so every call refuses it as 40
abbrev pub no_state : State
no_state = state_of [] fresh

-- the description that a state holds
abbrev pub description_of : State → List ℕ
description_of s = record_in s.description

-- whether a list of calls can leave this state: only zeros after its description, and a hearing that is possible under code c
abbrev pub is_state : Code → State → Bool
is_state c s = all_zero (drop (length (description_of s)) s.description) && is_hearing c s.hearing

-- the code of a state, or refusal 40, which is this codec's own: no list of calls leaves the state
abbrev pub code_of_state : State → Result Code Refusal
code_of_state s =
    on_description (describe (description_of s)) (λ x. Err NotAState) (λ c. cond (is_state c s) (Ok c) (Err NotAState))

-- a refused call answers with the refusal, and changes nothing
abbrev pub refused_in : State → Refusal → Result Unit Refusal × State
refused_in s x = (Err x, s)

-- a state with another hearing in the place of its hearing
abbrev pub with_hearing : State → Hearing → State
with_hearing s h = record { description = s.description; hearing = h }

-- open: a fresh hearing for a code; the refusals of its description come first
abbrev pub opened : List ℕ → Result Unit Refusal × State
opened d = on_description (describe d) (refused_in no_state) (λ c. (Ok tt, state_of d fresh))

-- add: refusal 40 first; then 12, 13 and 27; then the sums
abbrev pub added : State → List ℕ → Result Unit Refusal × State
added s channel =
    on_description (code_of_state s) (refused_in s)
    (λ c. refused_or (judge (add_refusals c s.hearing.count channel)) (refused_in s) (Ok tt, with_hearing s (added_to c s.hearing channel)))

-- clear: "Clearing returns zeros and count 0."
abbrev pub cleared : State → Result Unit Refusal × State
cleared s = on_description (code_of_state s) (refused_in s) (λ c. (Ok tt, with_hearing s fresh))

-- "decoding uses the held values": the decoder's answer to the held description and values
abbrev pub decoded_held_with : Restart → State → ℕ → List ℕ → Result Tally DecodingError × List ℕ
decoded_held_with restart s limit output =
    on_description (code_of_state s) (λ x. (Err (Refused x), output))
    (λ c. decoded_as (single limit) restart (description_of s) (combined c s.hearing) output)
