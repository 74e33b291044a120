-- Document 02, request 2.6: what a hearing holds, "whatever list of adds preceded it". `held_after` of proofs/HeldAfter.antt proves it for
-- every list of adds and clears from a fresh hearing.
use Rattle.std.specs.Prelude.{◌≡◌, List, [], ◌∷◌, ◌++◌, map, ℕ, ℤ, pos, ◌+ℤ◌, length, get_or, replicate, Ok, Result}
use Rattle.laws.specs.Table.{table}
use Rattle.refusal.specs.Judge.{judge, refused_or}
use Rattle.code.specs.declared.Code.{Code}
use Rattle.code.specs.Code.{code_length}
use Rattle.code.specs.Description.{describe}
use Rattle.channel.specs.Channel.{clip, channel_values}
use Rattle.flip_trial.specs.declared.Restart.{Restart}
use Rattle.decoder.specs.Decoder.{single, decoded_as}
use Rattle.decoder_demands.specs.Agreement.{Agree}
use Rattle.hearing.specs.Hearing.{combined, add_refusals}
use Rattle.hearing_state.specs.State.{State, description_of, code_of_state, opened, added, cleared, decoded_held_with}
use Rattle.hearing_buffer.specs.Lent.{hearing_size, state_in, opened_in, added_in, cleared_in}
use Rattle.refusal.specs.declared.Refusal.{Refusal}

-- a call that may change a state
pub data Call : Type 0 where
  -- add a vector
  add : List ℕ → Call
  -- clear
  clear : Call

-- what a call answers, and the state afterwards
abbrev pub called : State → Call → Result Unit Refusal × State
called s (add channel) = added s channel
called s clear = cleared s

-- the state that a list of calls leaves
abbrev pub after : State → List Call → State
after s [] = s
after s (call ∷ calls) = after (called s call).1 calls

-- the vectors accepted since the last clear, `vectors` being those before the calls: 12, 13 and 27 do not apply to them
abbrev pub accepted_in : Code → List (List ℕ) → List Call → List (List ℕ)
accepted_in c vectors [] = vectors
accepted_in c vectors (add channel ∷ calls) =
    accepted_in c (refused_or (judge (add_refusals c (length vectors) channel)) (λ x. vectors) (vectors ++ (channel ∷ []))) calls
accepted_in c vectors (clear ∷ calls) = accepted_in c [] calls

-- the fold of clipped sums, in whole numbers: each vector is added value by value, and each sum clipped to −31..31
abbrev pub fold_of_sums : ℕ → List ℤ → List (List ℤ) → List ℤ
fold_of_sums size sums [] = sums
fold_of_sums size sums (v ∷ vs) = fold_of_sums size (table (λ i. clip (get_or sums i (pos 0) +ℤ get_or v i (pos 0))) size) vs

-- the state s, of a code c with description d, holds these vectors
pub record Holds (d : List ℕ) (c : Code) (s : State) (vectors : List (List ℕ)) : Type 0 where
  -- it holds the description
  pub description_is : description_of s ≡ d
  -- it is a state of that code: no later call is refused as 40
  pub code_is : code_of_state s ≡ Ok c
  -- the count is the number of the vectors
  pub count_is : s.hearing.count ≡ length vectors
  -- the held values are the fold of clipped sums
  pub values_are : channel_values (combined c s.hearing) ≡ fold_of_sums (code_length c) (replicate (code_length c) (pos 0)) (map channel_values vectors)
  -- decoding is that of the held values, at every restart
  pub decoded_is : (restart : Restart) (limit : ℕ) (output : List ℕ)
      → decoded_held_with restart s limit output ≡ decoded_as (single limit) restart d (combined c s.hearing) output
  -- "Restart and full decoding must agree on the combined vector", with every T and outputs of any size
  pub agree : (limit size : ℕ) → Agree (single limit) d (combined c s.hearing) size

-- any code, and any list of adds and clears from a fresh hearing
abbrev pub HeldAfter : Type 0
HeldAfter = (d : List ℕ) (c : Code) (calls : List Call) → describe d ≡ Ok c → Holds d c (after (opened d).1 calls) (accepted_in c [] calls)

-- for C: what a call leaves in a buffer
abbrev pub called_in : List ℕ → Call → List ℕ
called_in b (add channel) = (added_in b channel).1
called_in b clear = (cleared_in b).1

-- for C: what a list of calls leaves in a buffer
abbrev pub buffer_after : List ℕ → List Call → List ℕ
buffer_after b [] = b
buffer_after b (call ∷ calls) = buffer_after (called_in b call) calls

-- In any buffer of the right size in which a hearing is opened, any list of adds and clears leaves the state of `after`, so `HeldAfter` says
-- what it holds: `buffer-after` of proofs/Buffer.antt.
abbrev pub BufferAfter : Type 0
BufferAfter =
    (d b : List ℕ) (c : Code) (calls : List Call)
    → describe d ≡ Ok c → length b ≡ hearing_size → state_in (buffer_after (opened_in d b).1 calls) ≡ after (opened d).1 calls
