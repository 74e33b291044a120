-- Trial 1 and a trial for each of some sets: for any two restarts the same bits, with the exact steps of each.
use mathlib.Core.Path.{◌≡◌, refl, sym, ap, ap₂, ◌∙◌, subst}
use mathlib.Core.List.{List, [], ◌∷◌, map}
use Prim.Native.Nat.{ℕ, zero, suc, ◌+◌, ◌-◌, ◌*◌, ◌<◌, ◌≤◌}
use native.Mathlib.Omega.{arith}
use lib.IntN.{ℤ}
use lib.ListN.{length, get_or, take, length-take, length-map}
use lib.Seq.{get_or-take}
use Rattle.laws.proofs.Segment.{take-map}
use Rattle.code.specs.declared.Code.{Code}
use Rattle.code.specs.Code.{code_length}
use Rattle.values.specs.Values.{mask_rule}
use Rattle.pass_tree.specs.Node.{Out}
use Rattle.pass_tree.proofs.Steps.{steps_whole}
use Rattle.flip_trial.specs.declared.Restart.{Restart}
use Rattle.flip_trial.specs.Trial.{first_trial, lowest, later_trial}
use Rattle.flip_trial.specs.Flips.{Flips}
use Rattle.flip_trial.proofs.Restartable.{restartable}
use Rattle.flip_trial.proofs.Agree.{same_bits, steps_from}
use Rattle.decoder_demands.specs.Claims.{bits_of_each, steps_of, skipped_by}

-- a set for each of t trials after the first
pub sets_made : (sets : List (List ℕ)) (t : ℕ) → 1 ≤ t → t ≤ length sets + 1 → length (take (t - 1) sets) + 1 ≡ t
sets_made sets t l m = omega (arith, length-take (t - 1) sets)

-- sets that a trial can flip
abbrev pub FlipsEach : List ℕ → Code → List (List ℕ) → Type 0
FlipsEach mask c sets = (a : ℕ) → a < length sets → Flips mask (code_length c) (get_or sets a [])

-- the first of them
pub flips_take : (mask : List ℕ) (c : Code) (m : ℕ) (sets : List (List ℕ)) → FlipsEach mask c sets → FlipsEach mask c (take m sets)
flips_take mask c m sets p a l =
    let long = length-take m sets in
    subst (Flips mask (code_length c)) (sym (get_or-take m sets a [] (omega arith))) (p a (omega arith))

-- trial 1, and the trial of each set
abbrev pub trials_for : Restart → List ℕ → Code → List ℤ → List (List ℕ) → List Out
trials_for restart mask c v sets = first_trial mask c v ∷ map (later_trial restart mask c v) sets

module _ (mask : List ℕ) (c : Code) (v : List ℤ) where
  -- one more than the sets
  pub length-trials_of : (restart : Restart) (sets : List (List ℕ)) → length (trials_for restart mask c v sets) ≡ length sets + 1
  length-trials_of restart sets = omega (arith, length-map sets (later_trial restart mask c v))

  -- the first t of them
  pub take-trials_of : (restart : Restart) (sets : List (List ℕ)) (t : ℕ) → 1 ≤ t → take t (trials_for restart mask c v sets) ≡ trials_for restart mask c v (take (t - 1) sets)
  take-trials_of restart sets zero l = absurd (omega arith)
  take-trials_of restart sets (suc t) l =
      let e : t ≡ suc t - 1 = omega arith in
      ap (λ (os : List Out). first_trial mask c v ∷ os)
      (take-map (later_trial restart mask c v) t sets ∙ ap (λ (k : ℕ). map (later_trial restart mask c v) (take k sets)) e)

  -- the same bits of each later trial
  bits-later : (a b : Restart) (sets : List (List ℕ)) → FlipsEach mask c sets → bits_of_each (map (later_trial a mask c v) sets) ≡ bits_of_each (map (later_trial b mask c v) sets)
  bits-later a b [] p = refl
  bits-later a b (is ∷ sets) p =
      let f = p 0 (omega arith) in
      ap₂ (λ (x : List ℕ) (xs : List (List ℕ)). x ∷ xs)
      (same_bits mask c v is f _ (restartable f a) ∙ sym (same_bits mask c v is f _ (restartable f b)))
      (bits-later a b sets (λ a l. p (suc a) (omega arith)))

  -- the trials of any two restarts have the same bits
  pub same-trials : (a b : Restart) (sets : List (List ℕ)) → FlipsEach mask c sets → bits_of_each (trials_for a mask c v sets) ≡ bits_of_each (trials_for b mask c v sets)
  same-trials a b sets p = ap (λ (xs : List (List ℕ)). (first_trial mask c v).bits ∷ xs) (bits-later a b sets p)

  abbrev pass : ℕ
  pass = c.n * code_length c

  -- the steps of later trials: a whole pass each, without what the restarts skip
  steps_later : (restart : Restart) (sets : List (List ℕ)) → FlipsEach mask c sets → steps_of (map (later_trial restart mask c v) sets) + skipped_by restart mask c (map lowest sets) ≡ length sets * pass
  steps_later restart [] p = omega arith
  steps_later restart (is ∷ sets) p =
      omega (arith, steps_from mask c v is _ (restartable (p 0 (omega arith)) restart).most, steps_later restart sets (λ a l. p (suc a) (omega arith)))

  -- the steps of the first t trials, likewise
  pub steps_trials : (restart : Restart) (sets : List (List ℕ)) → FlipsEach mask c sets → (t : ℕ) → 1 ≤ t → t ≤ length sets + 1 → {s : ℕ} → s ≡ steps_of (take t (trials_for restart mask c v sets)) → s + skipped_by restart mask c (map lowest (take (t - 1) sets)) ≡ t * c.n * code_length c
  steps_trials restart sets p t l m e =
      let later : ℕ = length (take (t - 1) sets) in
      let passes : pass + later * pass ≡ (later + 1) * c.n * code_length c = omega arith in
      omega (
        arith,
        e ∙ ap steps_of (take-trials_of restart sets t l),
        steps_whole c.n (mask_rule mask) v,
        steps_later restart (take (t - 1) sets) (flips_take mask c (t - 1) sets p),
        passes ∙ ap (λ (k : ℕ). k * c.n * code_length c) (sets_made sets t l m),
      )
