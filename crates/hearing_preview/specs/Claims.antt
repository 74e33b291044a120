-- What the theorems of this crate state of its definitions.
use Rattle.std.specs.Prelude.{◌≡◌, List, [], ◌∷◌, ◌++◌, ℕ, length, Err, Ok, Result}
use Rattle.refusal.specs.declared.Refusal.{Refusal}
use Rattle.refusal.specs.Judge.{judge, refused_or}
use Rattle.code.specs.declared.Code.{Code}
use Rattle.code.specs.Description.{describe}
use Rattle.flip_trial.specs.declared.Restart.TheVariants.{AfterFlip}
use Rattle.decoder.specs.Decoder.{decoded_restarted}
use Rattle.hearing.specs.Hearing.{combined, add_refusals}
use Rattle.hearing_state.specs.State.{State, opened, added, decoded_held_with}
use Rattle.hearing_buffer.specs.Lent.{hearing_size, state_in, opened_in}
use Rattle.hearing_demands.specs.Repeats.{Call, after, accepted_in, Holds, buffer_after}
use Rattle.hearing_preview.specs.Preview.{previewed_in}
use Rattle.flip_run.specs.declared.DecodingError.TheVariants.{Refused}
use Rattle.flip_run.specs.declared.Tally.{Tally}
use Rattle.flip_run.specs.declared.DecodingError.{DecodingError}

-- the preview of an add to a state: the refusal of the add, or restarted decoding of the state that it leaves
abbrev pub previewed : State → List ℕ → ℕ → List ℕ → Result Tally DecodingError × List ℕ
previewed s channel limit output =
    refused_or (added s channel).0 (λ x. (Err (Refused x), output)) (decoded_held_with AfterFlip (added s channel).1 limit output)

-- the preview in a buffer, whatever it holds, is that of its state: `on_a_copy`
abbrev pub OnACopy : Type 0
OnACopy = (b channel : List ℕ) (limit : ℕ) (output : List ℕ) → previewed_in b channel limit output ≡ previewed (state_in b) channel limit output

-- what a preview of one more vector answers on a state s, of a code c with description d, `vectors` being those that it holds
pub record Previews (d : List ℕ) (c : Code) (s : State) (vectors : List (List ℕ)) (channel : List ℕ) : Type 0 where
  -- 12, 13 and 27 are the answer, and the output stays
  pub refused :
      (x : Refusal) → judge (add_refusals c (length vectors) channel) ≡ Err x
      → (limit : ℕ) (output : List ℕ) → previewed s channel limit output ≡ (Err (Refused x), output)
  -- otherwise the answer is that of restarted decoding of the sums
  pub decoded :
      judge (add_refusals c (length vectors) channel) ≡ Ok tt
      → (limit : ℕ) (output : List ℕ) → previewed s channel limit output ≡ decoded_restarted d (combined c (added s channel).1.hearing) limit output
  -- and they are the sums of a state that holds this vector too
  pub sums : judge (add_refusals c (length vectors) channel) ≡ Ok tt → Holds d c (added s channel).1 (vectors ++ (channel ∷ []))

-- any code, and any list of adds and clears from a fresh hearing: `preview_after`
abbrev pub PreviewAfter : Type 0
PreviewAfter =
    (d : List ℕ) (c : Code) (calls : List Call) (channel : List ℕ)
    → describe d ≡ Ok c → Previews d c (after (opened d).1 calls) (accepted_in c [] calls) channel

-- in any buffer of the right size in which a hearing is opened, the answer is that of the state of `after`: `preview_in_after`
abbrev pub PreviewInAfter : Type 0
PreviewInAfter =
    (d b : List ℕ) (c : Code) (calls : List Call) (channel : List ℕ) (limit : ℕ) (output : List ℕ)
    → describe d ≡ Ok c → length b ≡ hearing_size
    → previewed_in (buffer_after (opened_in d b).1 calls) channel limit output ≡ previewed (after (opened d).1 calls) channel limit output
