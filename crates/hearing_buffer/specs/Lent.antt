-- Document 02, request 2.6, for C: a state in a buffer that the caller lends. How its bytes are laid out is this codec's own choice: the
-- description with the zeros that follow it, the count, and the values with the zeros that follow them.
use Rattle.std.specs.Prelude.{cond, List, ◌∷◌, ◌++◌, ℕ, ◌+◌, ◌^◌, eqb, length, get_or, take, drop, Result, Ok, Err}
use Rattle.refusal.specs.declared.Refusal.{Refusal}
use Rattle.refusal.specs.Judge.{refused_or}
use Rattle.arrays.specs.Sizes.{largest_n}
use Rattle.code.specs.Code.{longest_description}
use Rattle.flip_trial.specs.declared.Restart.TheVariants.{Root, AfterFlip}
use Rattle.hearing.specs.Hearing.{Hearing}
use Rattle.hearing_state.specs.State.{State, no_state, opened, added, cleared, decoded_held_with}
use Rattle.refusal.specs.declared.Refusal.TheVariants.{NotAState}
use Rattle.flip_run.specs.declared.Tally.{Tally}
use Rattle.flip_run.specs.declared.DecodingError.{DecodingError}

-- the size of a buffer: description, count, values
abbrev pub hearing_size : ℕ
hearing_size = longest_description + (1 + 2 ^ largest_n)

-- the bytes of a state
abbrev pub bytes_of : State → List ℕ
bytes_of s = s.description ++ (s.hearing.count ∷ s.hearing.values)

-- the state in a buffer; no state if the buffer has another size
abbrev pub state_in : List ℕ → State
state_in b =
    let hearing : Hearing = record { count = get_or b longest_description 0; values = drop (1 + longest_description) b } in
    cond (eqb (length b) hearing_size) (record { description = take longest_description b; hearing = hearing }) no_state

-- what a call answers, with the count of hearings, and what the buffer holds afterwards: a refused call changes nothing
abbrev pub answer_in : Result Unit Refusal × State → List ℕ → Result ℕ Refusal × List ℕ
answer_in a b = refused_or a.0 (λ x. (Err x, b)) (Ok a.1.hearing.count, bytes_of a.1)

-- open: what a buffer of the right size held before does not matter
abbrev pub opened_in : List ℕ → List ℕ → Result ℕ Refusal × List ℕ
opened_in d b = cond (eqb (length b) hearing_size) (answer_in (opened d) b) (Err NotAState, b)

-- add
abbrev pub added_in : List ℕ → List ℕ → Result ℕ Refusal × List ℕ
added_in b channel = answer_in (added (state_in b) channel) b

-- clear
abbrev pub cleared_in : List ℕ → Result ℕ Refusal × List ℕ
cleared_in b = answer_in (cleared (state_in b)) b

-- decode with each later trial repeated from the root: the state is only read
abbrev pub full_in : List ℕ → ℕ → List ℕ → Result Tally DecodingError × List ℕ
full_in b limit output = decoded_held_with Root (state_in b) limit output

-- decode with each later trial resumed after its flipped index
abbrev pub restarted_in : List ℕ → ℕ → List ℕ → Result Tally DecodingError × List ℕ
restarted_in b limit output = decoded_held_with AfterFlip (state_in b) limit output
