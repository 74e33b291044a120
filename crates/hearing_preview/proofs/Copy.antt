-- Add and then decode on a copy of a buffer: what the add writes in the copy is read back.
use mathlib.Core.Path.{◌≡◌, refl, ap, ◌∙◌}
use mathlib.Core.List.{List}
use Prim.Native.Nat.{ℕ}
use Rattle.refusal.specs.declared.Refusal.{Refusal}
use Rattle.refusal.specs.Judge.{judge, refused_or}
use Rattle.code.specs.declared.Code.{Code}
use Rattle.code.specs.Description.{on_description}
use Rattle.flip_trial.specs.declared.Restart.TheVariants.{AfterFlip}
use Rattle.hearing.specs.Hearing.{added_to, add_refusals}
use Rattle.hearing_state.specs.State.{State, code_of_state, refused_in, with_hearing, decoded_held_with}
use Rattle.hearing_state.specs.Clauses.{added_under}
use Rattle.hearing_buffer.specs.Lent.{state_in, answer_in}
use Rattle.hearing_buffer.proofs.Bytes.{read_written}
use Rattle.hearing_preview.specs.Preview.{then_restarted_in, previewed_in}
use Rattle.hearing_preview.specs.Clauses.{MayAdd}
use Rattle.hearing_preview.specs.Claims.{OnACopy}
use Rattle.hearing_preview.proofs.Sums as sums
use Rattle.std.specs.Prelude.{Err, Ok}
use Rattle.flip_run.specs.declared.DecodingError.TheVariants.{Refused}
use Rattle.refusal.specs.Clauses.{Judgement}
use Rattle.code.specs.Clauses.{Description}
use Rattle.flip_run.specs.Clauses.{Decoded}

module _ (b channel : List ℕ) (limit : ℕ) (output : List ℕ) where
  abbrev s : State
  s = state_in b

  -- what an add leaves in the copy, and what it answers, decode alike
  abbrev Alike : Judgement × State → Type 0
  Alike a = then_restarted_in (answer_in a b) limit output ≡ refused_or a.0 (λ x. (Err (Refused x), output)) (decoded_held_with AfterFlip a.1 limit output)

  judged : (c : Code) → code_of_state s ≡ Ok c → (j : Judgement) → judge (add_refusals c s.hearing.count channel) ≡ j
      → Alike (refused_or j (refused_in s) (Ok tt, with_hearing s (added_to c s.hearing channel)))
  unfolding refused_or
  judged c e (Ok tt) f =
      let may : MayAdd c b channel = record { code_is = e; fine = f } in
      let after : State = with_hearing s (added_to c s.hearing channel) in
      ap (λ (t : State). decoded_held_with AfterFlip t limit output) (read_written after (sums.description-long c b channel may) (sums.sums-long c b channel may))
  judged c e (Err x) f = refl

  coded : (a : Description) → code_of_state s ≡ a → Alike (on_description a (refused_in s) (λ c. added_under c s channel))
  unfolding refused_or
  coded (Ok c) e = judged c e (judge (add_refusals c s.hearing.count channel)) refl
  coded (Err x) e = refl

  -- the preview in the buffer, by what is judged: no code, or under its code the refusals of the add
  abbrev in_copy : Description → Decoded × List ℕ
  in_copy a = then_restarted_in (answer_in (on_description a (refused_in s) (λ c. added_under c s channel)) b) limit output

  abbrev under : Code → Judgement → Decoded × List ℕ
  under c j = then_restarted_in (answer_in (refused_or j (refused_in s) (Ok tt, with_hearing s (added_to c s.hearing channel))) b) limit output

  pub preview_no_code : (x : Refusal) → code_of_state s ≡ Err x → previewed_in b channel limit output ≡ (Err (Refused x), output)
  unfolding refused_or
  preview_no_code x e = ap in_copy e

  pub preview_refused : (c : Code) (x : Refusal) → code_of_state s ≡ Ok c → judge (add_refusals c s.hearing.count channel) ≡ Err x
      → previewed_in b channel limit output ≡ (Err (Refused x), output)
  unfolding refused_or
  preview_refused c x e f = ap in_copy e ∙ ap (under c) f

  pub preview_fine : (c : Code) → code_of_state s ≡ Ok c → judge (add_refusals c s.hearing.count channel) ≡ Ok tt
      → previewed_in b channel limit output ≡ decoded_held_with AfterFlip (with_hearing s (added_to c s.hearing channel)) limit output
  unfolding refused_or
  preview_fine c e f = ap in_copy e ∙ ap (under c) f ∙ judged c e (Ok tt) f

pub on_a_copy : OnACopy
on_a_copy b channel limit output = coded b channel limit output (code_of_state (state_in b)) refl
