-- What a preview answers after any list of adds and clears: what it decodes is held after one more add.
use mathlib.Core.Path.{◌≡◌, refl, ap, ◌∙◌, subst}
use mathlib.Core.List.{List, [], ◌∷◌, ◌++◌}
use Prim.Native.Nat.{ℕ}
use lib.ListN.{length}
use Rattle.refusal.specs.Judge.{judge, refused_or}
use Rattle.refusal.proofs.Judge.{refused_fine}
use Rattle.code.specs.declared.Code.{Code}
use Rattle.code.specs.Description.{describe, on_description}
use Rattle.flip_trial.specs.declared.Restart.TheVariants.{AfterFlip}
use Rattle.hearing.specs.Hearing.{added_to, add_refusals}
use Rattle.hearing_state.specs.State.{State, refused_in, with_hearing, opened, added, decoded_held_with}
use Rattle.hearing_state.specs.Clauses.{added_under}
use Rattle.hearing_buffer.specs.Lent.{opened_in}
use Rattle.hearing_demands.specs.Repeats.{Call, add, clear, called, after, accepted_in, Holds, buffer_after}
use Rattle.hearing_demands.proofs.HeldAfter.{held_after_lem}
use Rattle.hearing_demands.proofs.Buffer.{buffer-after}
use Rattle.hearing_preview.specs.Claims.{previewed, Previews, PreviewAfter, PreviewInAfter}
use Rattle.hearing_preview.proofs.Copy.{on_a_copy}
use Rattle.std.specs.Prelude.{Err, Ok}
use Rattle.flip_run.specs.declared.DecodingError.TheVariants.{Refused}
use Rattle.refusal.specs.Clauses.{Judgement}
use Rattle.code.specs.Clauses.{Description}

-- one more add, of the state and of what is accepted
module _ (channel : List ℕ) where
  abbrev more : List Call → List Call
  more calls = calls ++ (add channel ∷ [])

  after_more : (s : State) (calls : List Call) → after s (more calls) ≡ (added (after s calls) channel).1
  after_more s [] = refl
  after_more s (call ∷ calls) = after_more (called s call).1 calls

  accepted-more : (c : Code) (vectors : List (List ℕ)) (calls : List Call)
      → judge (add_refusals c (length (accepted_in c vectors calls)) channel) ≡ Ok tt
      → accepted_in c vectors (more calls) ≡ accepted_in c vectors calls ++ (channel ∷ [])
  accepted-more c vectors [] e = refused_fine (λ x. vectors) (vectors ++ (channel ∷ [])) _ e
  accepted-more c vectors (add other ∷ calls) e = accepted-more c _ calls e
  accepted-more c vectors (clear ∷ calls) e = accepted-more c [] calls e

module _ (d : List ℕ) (c : Code) (calls : List Call) (channel : List ℕ) (code : describe d ≡ Ok c) where
  abbrev s : State
  s = after (opened d).1 calls

  abbrev vectors : List (List ℕ)
  vectors = accepted_in c [] calls

  holds : Holds d c s vectors
  holds = held_after_lem d c calls code

  -- the add, by its refusals
  abbrev by : Judgement → Judgement × State
  by j = refused_or j (refused_in s) (Ok tt, with_hearing s (added_to c s.hearing channel))

  added_is : (j : Judgement) → judge (add_refusals c (length vectors) channel) ≡ j → added s channel ≡ by j
  added_is j e =
      ap (λ (a : Description). on_description a (refused_in s) (λ c. added_under c s channel)) holds.code_is
      ∙ ap (λ (n : ℕ). by (judge (add_refusals c n channel))) holds.count_is
      ∙ ap by e

  -- the preview, by the judgement of the add
  preview_is : (j : Judgement) → judge (add_refusals c (length vectors) channel) ≡ j → (limit : ℕ) (output : List ℕ)
      → previewed s channel limit output ≡ refused_or (by j).0 (λ x. (Err (Refused x), output)) (decoded_held_with AfterFlip (added s channel).1 limit output)
  preview_is j e limit output =
      ap (λ (a : Judgement × State). refused_or a.0 (λ x. (Err (Refused x), output)) (decoded_held_with AfterFlip (added s channel).1 limit output)) (added_is j e)

  sums : judge (add_refusals c (length vectors) channel) ≡ Ok tt → Holds d c (added s channel).1 (vectors ++ (channel ∷ []))
  sums e =
      subst (λ (t : State). Holds d c t (vectors ++ (channel ∷ []))) (after_more channel (opened d).1 calls)
      (subst (Holds d c (after (opened d).1 (more channel calls))) (accepted-more channel c [] calls e) (held_after_lem d c (more channel calls) code))

  previews : Previews d c s vectors channel
  unfolding refused_or
  previews = record {
    refused = λ x e limit output. preview_is (Err x) e limit output;
    decoded = λ e limit output. preview_is (Ok tt) e limit output ∙ (sums e).decoded_is AfterFlip limit output;
    sums = sums;
  }

pub preview_after : PreviewAfter
preview_after = previews

pub preview_in_after : PreviewInAfter
preview_in_after d b c calls channel limit output code size =
    on_a_copy (buffer_after (opened_in d b).1 calls) channel limit output ∙ ap (λ (t : State). previewed t channel limit output) (buffer-after d b c calls code size)
