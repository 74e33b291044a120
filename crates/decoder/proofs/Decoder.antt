-- The laws of every decoder: if no refusal before 16 applies, its answer is that of its run of trials. Only `own-fine` and `own-past` look at which
-- decoder it is.
use mathlib.Core.Path.{◌≡◌, refl, sym, ap, ◌∙◌}
use mathlib.Core.Bool.{Bool, true}
use mathlib.Core.Logic.{◌↔◌}
use mathlib.Core.List.{List, [], ◌∷◌, ◌++◌}
use Prim.Native.Nat.{ℕ, ◌+◌}
use lib.ListN.{length}
use Rattle.refusal.specs.declared.Refusal.{Refusal}
use Rattle.refusal.specs.Judge.{differs, judge}
use Rattle.refusal.proofs.Judge.{judge-none, judge_no, judge-past, refused_fine, refused_by, accepted-fine, append-fine, append-past}
use Rattle.refusal.proofs.Tests.{differs-past, outside-past, differs_no, outside_no}
use Rattle.bits.specs.Packing.{bytes_for}
use Rattle.code.specs.declared.Code.{Code}
use Rattle.code.specs.Code.{information_count}
use Rattle.code.specs.Description.{mask_of, describe, on_description}
use Rattle.code.specs.Claims.{WellFormedUnder}
use Rattle.code.proofs.Operations.{under-exactly}
use Rattle.channel.specs.Channel.{channel_values, channel_refusals}
use Rattle.channel.proofs.Judge.{channel_fine, fine_channel}
use Rattle.flip_trial.specs.declared.Restart.{Restart}
use Rattle.flip_trial.specs.Trial.{trial_passes}
use Rattle.flip_run.specs.Trials.{Verdict, run, answer_of}
use Rattle.flip_run.specs.Claims.{of_run}
use Rattle.flip_run.proofs.Answers.{answer_of-run}
use Rattle.decoder.specs.Decoder.{Decoder, single, sets, most_limit, own_refusals, refusals_of, WellFormed, trials_of, decoded_under, decoded_as}
use Rattle.decoder.specs.Claims.{Allowed, SpeltOut}
use Rattle.std.specs.Prelude.{Err, Ok}
use Rattle.flip_run.specs.declared.DecodingError.TheVariants.{Refused}
use Rattle.refusal.specs.declared.Refusal.TheVariants.{OutputLength}
use Rattle.code.specs.Clauses.{Description}
use Rattle.flip_run.specs.Clauses.{Decoded}

-- ---- the answer, past its refusals

module _ (p : Decoder) (restart : Restart) (mask : List ℕ) (c : Code) (channel output : List ℕ) where
  abbrev pub verdict : Verdict
  verdict = run (trial_passes mask c) 0 0 (trials_of p restart mask c (channel_values channel))

  -- if no refusal before 16 applies, the answer is that of the run
  pub fine-answer : judge (refusals_of p c channel output) ≡ Ok tt → decoded_under p restart mask c channel output ≡ answer_of mask c output verdict
  unfolding decoded_under
  fine-answer e = refused_fine _ _ _ e

  -- a refusal before 16
  pub refused_answer : (x : Refusal) → judge (refusals_of p c channel output) ≡ Err x → decoded_under p restart mask c channel output ≡ (Err (Refused x), output)
  unfolding decoded_under
  refused_answer x e = refused_by (λ x. (Err (Refused x), output)) (answer_of mask c output verdict) _ x e

  -- if the answer is that of a run, no refusal before 16 applies
  pub answer-fine : (z : Decoded × List ℕ) → of_run z.0 ≡ true → decoded_under p restart mask c channel output ≡ z → (judge (refusals_of p c channel output) ≡ Ok tt) × (answer_of mask c output verdict ≡ z)
  unfolding decoded_under
  answer-fine z f e =
      let w : judge (refusals_of p c channel output) ≡ Ok tt =
      accepted-fine (λ (y : Decoded × List ℕ). of_run y.0) (λ x. (Err (Refused x), output)) (λ x. refl) (answer_of mask c output verdict) _
      (ap (λ (y : Decoded × List ℕ). of_run y.0) e ∙ f) in
      (w, sym (fine-answer w) ∙ e)

-- ---- the answer for a description

module _ (p : Decoder) (restart : Restart) (d channel output : List ℕ) where
  abbrev by : Description → Decoded × List ℕ
  by x = on_description x (λ r. (Err (Refused r), output)) (λ c. decoded_under p restart (mask_of d) c channel output)

  pub description_refused : (x : Refusal) → describe d ≡ Err x → decoded_as p restart d channel output ≡ (Err (Refused x), output)
  unfolding decoded_as
  description_refused x e = ap by e

  pub under-code : (c : Code) → describe d ≡ Ok c → decoded_as p restart d channel output ≡ decoded_under p restart (mask_of d) c channel output
  unfolding decoded_as
  under-code c e = ap by e

-- ---- well-formed calls, spelt out

own-fine : (p : Decoder) (c : Code) (rest : List (Bool × Refusal)) → Allowed p c → judge (own_refusals p c ++ rest) ≡ judge rest
own-fine (single limit) c rest a = judge_no _ _ _ (outside_no limit 1 (information_count c + 1) a.0 a.1)
own-fine (sets w limit) c rest a =
    judge_no _ _ _ (outside_no w 1 3 a.0 a.1) ∙ judge_no _ _ _ (outside_no limit 1 (most_limit w c) a.2 a.3)

own-past : (p : Decoder) (c : Code) (rest : List (Bool × Refusal)) → judge (own_refusals p c ++ rest) ≡ Ok tt → Allowed p c × (judge rest ≡ Ok tt)
own-past (single limit) c rest e =
    let x = judge-past _ _ _ e in
    (outside-past limit 1 (information_count c + 1) x.0, x.1)
own-past (sets w limit) c rest e =
    let x = judge-past _ _ _ e in
    let y = judge-past _ _ _ x.1 in
    let ws = outside-past w 1 3 x.0 in
    let limits = outside-past limit 1 (most_limit w c) y.0 in
    ((ws.0, ws.1, limits.0, limits.1), y.1)

module _ (p : Decoder) (c : Code) (channel output : List ℕ) where
  abbrev last : List (Bool × Refusal)
  last = (differs (length output) (bytes_for c.k), OutputLength) ∷ []

  pub spelt_out : SpeltOut p c channel output ↔ (judge (refusals_of p c channel output) ≡ Ok tt)
  spelt_out = (
    λ w.
        append-fine (channel_refusals c channel) (own_refusals p c ++ last) (channel_fine c channel w.channel_size w.in_range)
        ∙ own-fine p c last w.allowed ∙ judge_no _ _ _ (differs_no (length output) (bytes_for c.k) w.output_size) ∙ judge-none,
    λ e.
        let x = append-past (channel_refusals c channel) (own_refusals p c ++ last) e in
        let values = fine_channel c channel x.0 in
        let y = own-past p c last x.1 in
        record {
          channel_size = values.0;
          in_range = values.1;
          allowed = y.0;
          output_size = differs-past (length output) (bytes_for c.k) (judge-past _ _ _ y.1).0;
        },
  )

-- what is fine for one decoder is fine for another whose own refusals do not apply, with any output of that size
pub other_fine : (p p' : Decoder) (c : Code) (channel output output' : List ℕ) → judge (own_refusals p' c) ≡ Ok tt → length output' ≡ length output
    → judge (refusals_of p c channel output) ≡ Ok tt → judge (refusals_of p' c channel output') ≡ Ok tt
other_fine p p' c channel output output' own size e =
    let x = append-past (channel_refusals c channel) (own_refusals p c ++ last p c channel output) e in
    let y = append-past (own_refusals p c) (last p c channel output) x.1 in
    append-fine (channel_refusals c channel) (own_refusals p' c ++ last p' c channel output') x.0
    ∙ append-fine (own_refusals p' c) (last p' c channel output') own
    ∙ ap (λ (m : ℕ). judge ((differs m (bytes_for c.k), OutputLength) ∷ [])) size ∙ y.1

-- a call is well-formed exactly if no refusal before 16 is the answer
pub well_formed_exactly : (p : Decoder) (restart : Restart) (d channel output : List ℕ) → WellFormedUnder d (λ c. SpeltOut p c channel output) ↔ (of_run (decoded_as p restart d channel output).0 ≡ true)
unfolding decoded_as decoded_under
well_formed_exactly p restart d channel output =
    under-exactly (λ (z : Decoded × List ℕ). of_run z.0) (λ x. (Err (Refused x), output)) (λ x. refl) (λ c. refusals_of p c channel output)
    (λ c. answer_of (mask_of d) c output (verdict p restart (mask_of d) c channel output)) (λ c. answer_of-run (mask_of d) c output (verdict p restart (mask_of d) c channel output))
    (λ c. spelt_out p c channel output) d

-- a call is well-formed, under some code, exactly if no refusal before 16 is the answer
pub well_formed_is_run : (p : Decoder) (restart : Restart) (d channel output : List ℕ) → ((c : Code) × WellFormed p d c channel output) ↔ (of_run (decoded_as p restart d channel output).0 ≡ true)
unfolding decoded_as decoded_under
well_formed_is_run p restart d channel output = (
  λ w. exactly.0 (record { code = w.0; describes = w.1.described; rest = w.1.fine }),
  λ e. let w = exactly.1 e in (w.code, record { described = w.describes; fine = w.rest }),
)
  where
    exactly : WellFormedUnder d (λ c. judge (refusals_of p c channel output) ≡ Ok tt) ↔ (of_run (decoded_as p restart d channel output).0 ≡ true)
    exactly =
        under-exactly (λ (z : Decoded × List ℕ). of_run z.0) (λ x. (Err (Refused x), output)) (λ x. refl) (λ c. refusals_of p c channel output)
        (λ c. answer_of (mask_of d) c output (verdict p restart (mask_of d) c channel output)) (λ c. answer_of-run (mask_of d) c output (verdict p restart (mask_of d) c channel output))
        (λ c. (λ e. e, λ e. e)) d
