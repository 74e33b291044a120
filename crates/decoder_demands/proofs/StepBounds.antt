-- A decoder makes at most one trial for each information index, and trial 1, or 512 trials, each of at most the steps of a whole pass.
use mathlib.Core.Path.{◌≡◌, refl, sym, subst}
use mathlib.Core.Bool.{true}
use mathlib.Core.Logic.{⊎_elim}
use mathlib.Core.List.{List}
use Prim.Native.Nat.{ℕ, ◌*◌, ◌≤◌}
use native.Mathlib.Nat.{mul-le-mul}
use native.Mathlib.Omega.{arith}
use Rattle.arrays.specs.Claims.{longest, most_trials, most_steps}
use Rattle.arrays.proofs.Sizes.{fits}
use Rattle.code.specs.declared.Code.{Code}
use Rattle.code.specs.Code.{information_count, code_length}
use Rattle.code.proofs.Facts.{described}
use Rattle.flip_trial.specs.declared.Restart.{Restart}
use Rattle.flip_run.specs.Claims.{of_run}
use Rattle.decoder.specs.Decoder.{Decoder, single, sets, decoded_as}
use Rattle.decoder.specs.Claims.{Allowed}
use Rattle.decoder.proofs.Decoder.{spelt_out, well_formed_is_run}
use Rattle.decoder.proofs.Limit.{limit_fits}
use Rattle.decoder_demands.specs.Agreement.{limit_of}
use Rattle.decoder_demands.proofs.Agreement.{run_of}
use Rattle.std.specs.Prelude.{Err, Ok}
use Rattle.flip_run.specs.declared.DecodingError.TheVariants.{NonePassed, Refused}
use Rattle.flip_run.specs.Clauses.{Decoded}

-- the trials and steps of an answer
abbrev pub Bounded : Decoded × List ℕ → Type 0
Bounded (Ok t, bytes) = (t.trials ≤ most_trials) × (t.steps ≤ most_trials * most_steps)
Bounded (Err (NonePassed t), bytes) = (t.trials ≤ most_trials) × (t.steps ≤ most_trials * most_steps)
Bounded (Err (Refused x), bytes) = Unit

-- a refusal before 16 has none
run-bounded : (z : Decoded × List ℕ) → (of_run z.0 ≡ true → Bounded z) → Bounded z
run-bounded (Ok t, bytes) p = p refl
run-bounded (Err (NonePassed t), bytes) p = p refl
run-bounded (Err (Refused x), bytes) p = tt

-- limits that are allowed are few enough
few_allowed : (p : Decoder) (c : Code) → information_count c ≤ longest → Allowed p c → limit_of p ≤ most_trials
few_allowed (single limit) c l a = omega (arith, a.1)
few_allowed (sets w limit) c l a = omega (arith, a.3, limit_fits w c l)

pub bounded : (p : Decoder) (restart : Restart) (d channel output : List ℕ) → Bounded (decoded_as p restart d channel output)
bounded p restart d channel output =
    run-bounded (decoded_as p restart d channel output) (λ e.
    let u = (well_formed_is_run p restart d channel output).1 e in
    let c = u.0 in
    let coded = (described d c u.1.described).coded in
    let x = run_of p d c channel output u.1 in
    let allowed = ((spelt_out p c channel output).1 u.1.fine).allowed in
    let few : x.made ≤ most_trials = omega (arith, x.most, few_allowed p c (omega (arith, coded.K_most, fits coded.n_most)) allowed) in
    let all : x.made * c.n * code_length c ≤ most_trials * most_steps = omega (arith, mul-le-mul (mul-le-mul few coded.n_most) (fits coded.n_most)) in
    let steps : x.steps restart ≤ most_trials * most_steps = omega (arith, x.exceeds restart, x.full_steps, all) in
    ⊎_elim (λ a. subst Bounded (sym (a.1 restart output refl)) (few, steps)) (λ a. subst Bounded (sym (a.2 restart output refl)) (few, steps)) x.answers)
