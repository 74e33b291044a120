-- The decoders of every restart answer the same, and each skips exactly the steps that its restarts save.
use mathlib.Core.Path.{◌≡◌, refl, sym, ap, ap₂, ◌∙◌, subst}
use mathlib.Core.Bool.{Bool}
use mathlib.Core.Logic.{inl, inr}
use mathlib.Core.List.{List}
use Prim.Native.Nat.{ℕ, ◌+◌, ◌≤◌}
use native.Mathlib.Omega.{arith}
use lib.IntN.{ℤ}
use lib.ListN.{length, take}
use lib.Seq.{take_all}
use Rattle.bits.specs.Packing.{packed}
use Rattle.code.specs.declared.Code.{Code}
use Rattle.pass_tree.specs.Node.{Out}
use Rattle.flip_trial.specs.declared.Restart.{Restart}
use Rattle.flip_trial.specs.declared.Restart.TheVariants.{Root}
use Rattle.flip_trial.specs.Trial.{message_in, trial_passes}
use Rattle.flip_run.specs.Trials.{Verdict, passed, failed, run, answer_of}
use Rattle.decoder_demands.specs.Claims.{steps_of, PassedAt, AllFailed, Ends, SameButSteps, EveryRestart}
use Rattle.decoder_demands.proofs.Trials.{FlipsEach, trials_for, length-trials_of, same-trials, sets_made, steps_trials}
use Rattle.decoder_demands.proofs.Run.{run_ends, run-same}
use Rattle.flip_run.specs.Clauses.{Decoded}

-- the steps of a verdict, and it with other steps
abbrev steps_in : Verdict → ℕ
steps_in (passed trial steps bits) = steps
steps_in (failed made steps) = steps

abbrev in_steps : ℕ → Verdict → Verdict
in_steps s (passed trial steps bits) = passed trial s bits
in_steps s (failed made steps) = failed made s

same_but_steps : (x y : Verdict) → SameButSteps x y → y ≡ in_steps (steps_in y) x
same_but_steps (passed t s u) (passed t' s' u') e = ap₂ (λ (t : ℕ) (u : List ℕ). passed t s' u) (sym e.0) (sym e.1)
same_but_steps (failed m s) (failed m' s') e = ap (λ (m : ℕ). failed m s') (sym e)
same_but_steps (passed t s u) (failed m' s') e = absurd e
same_but_steps (failed m s) (passed t' s' u') e = absurd e

module _ (mask : List ℕ) (c : Code) (v : List ℤ) (sets : List (List ℕ)) (flips : FlipsEach mask c sets) where
  abbrev ok : List ℕ → Bool
  ok = trial_passes mask c

  abbrev os : Restart → List Out
  os r = trials_for r mask c v sets

  abbrev of : Restart → Verdict
  of r = run ok 0 0 (os r)

  -- the verdict of each restart is full decoding's, but for the steps
  same : (x : Verdict) → of Root ≡ x → (r : Restart) → of r ≡ in_steps (steps_in (of r)) x
  same x e r = same_but_steps x (of r) (subst (λ (y : Verdict). SameButSteps y (of r)) e (run-same ok (os Root) (os r) (same-trials mask c v Root r sets flips)))

  pub every-restart : {Fitting : List ℕ → Type 0} {answer : Restart → List ℕ → Decoded × List ℕ}
      → ((r : Restart) (o : List ℕ) → Fitting o → answer r o ≡ answer_of mask c o (of r)) → EveryRestart mask c sets Fitting answer
  every-restart {Fitting} {answer} a = go (of Root) refl
    where
      go : (x : Verdict) → of Root ≡ x → EveryRestart mask c sets Fitting answer
      go (passed t s u) e =
          let p : (r : Restart) → PassedAt ok (os r) t (steps_in (of r)) u = λ r. subst (Ends ok (os r)) (same (passed t s u) e r) (run_ends ok (os r)) in
          let most : t ≤ length sets + 1 = omega (arith, (p Root).most, length-trials_of mask c v Root sets) in
          record {
            made = t;
            steps = λ r. steps_in (of r);
            most = most;
            each = sets_made sets t (p Root).least most;
            answers = inl (packed (take c.k (message_in mask c u)), λ r o f. a r o f ∙ ap (answer_of mask c o) (same (passed t s u) e r));
            counted = λ r. steps_trials mask c v r sets flips t (p Root).least most (p r).steps_are;
          }
      go (failed m s) e =
          let p : (r : Restart) → AllFailed ok (os r) m (steps_in (of r)) = λ r. subst (Ends ok (os r)) (same (failed m s) e r) (run_ends ok (os r)) in
          let all : m ≡ length sets + 1 = (p Root).all ∙ length-trials_of mask c v Root sets in
          let least : 1 ≤ m = omega arith in
          let most : m ≤ length sets + 1 = omega arith in
          record {
            made = m;
            steps = λ r. steps_in (of r);
            most = most;
            each = sets_made sets m least most;
            answers = inr (all, λ r o f. a r o f ∙ ap (answer_of mask c o) (same (failed m s) e r));
            counted = λ r.
                steps_trials mask c v r sets flips m least most ((p r).steps_are ∙ ap steps_of (sym (take_all m (os r) (omega (arith, (p r).all)))));
          }
