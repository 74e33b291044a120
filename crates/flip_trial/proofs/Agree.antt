-- A later trial has one list of bits, and its leaf values, wherever it may resume, and takes the fewer steps the later it resumes.
use mathlib.Core.Path.{◌≡◌, refl, sym, ap, ◌∙◌}
use mathlib.Core.List.{List, []}
use Prim.Native.Nat.{ℕ, ◌+◌, ◌-◌, ◌*◌, ◌<◌, ◌≤◌}
use native.Mathlib.Nat.{zero-add}
use native.Mathlib.Omega.{arith}
use borrow.Author.Tests.{lt-ltb, le-ltb}
use lib.IntN.{ℤ, pos}
use lib.ListN.{length, get_or, take, drop}
use lib.Seq.{get_or-drop}
use Rattle.laws.proofs.Indices.{lt_cases}
use Rattle.bits.specs.Mask.{mask_bit}
use Rattle.code.specs.declared.Code.{Code}
use Rattle.code.specs.Code.{code_length}
use Rattle.values.specs.Values.{mask_rule}
use Rattle.pass_tree.specs.Skipped.{skipped}
use Rattle.pass_tree.proofs.Node.{Short, length-bits}
use Rattle.pass_tree.proofs.Causality.{bits-before, leaf-at}
use Rattle.pass_tree.proofs.Restart.{restart-bits, restart-leaves}
use Rattle.pass_tree.proofs.RestartFlip.{begins-flipped}
use Rattle.pass_tree.proofs.Steps.{steps_and_skipped, skipped_mono}
use Rattle.flip_trial.specs.Trial.{first_trial, flip_rule, lowest, forced_prefix}
use Rattle.flip_trial.specs.Flips.{Flips}
use Rattle.flip_trial.specs.Claims.{trial_from, Restartable, leaf_at}
use Rattle.flip_trial.proofs.Flips.{lowest_usual, lowest_opposite, rule-before, rule-zero}
use Rattle.flip_trial.proofs.Prefix.{length-forced, forced-before, forced-past}

module _ (mask : List ℕ) (c : Code) (v : List ℤ) (is : List ℕ) where
  -- how the trial that resumes at q begins
  abbrev prefix : ℕ → List ℕ
  prefix q = forced_prefix (first_trial mask c v).bits (lowest is) q

  none : Short c.n []
  none = omega arith

  first-length : length (first_trial mask c v).bits ≡ code_length c
  first-length = length-bits c.n [] (mask_rule mask) v none

  pub length-prefix : (q : ℕ) → q ≤ code_length c → length (forced_prefix (first_trial mask c v).bits (lowest is) q) ≡ q
  length-prefix q l = length-forced (first_trial mask c v).bits (lowest is) q (omega (arith, first-length))

  -- ---- steps

  pub steps_from : (q : ℕ) → q ≤ code_length c → (trial_from q mask c v is).work.steps + skipped c.n q ≡ c.n * code_length c
  steps_from q l =
      let e = length-prefix q l in
      omega (arith, steps_and_skipped c.n (prefix q) (flip_rule mask is) v (omega arith), ap (skipped c.n) e)

  pub fewer_steps : (q q' : ℕ) → q ≤ q' → q' ≤ code_length c → (trial_from q' mask c v is).work.steps ≤ (trial_from q mask c v is).work.steps
  fewer_steps q q' l m = omega (arith, steps_from q (omega arith), steps_from q' m, skipped_mono c.n l)

  -- ---- bits and leaf values

  module _ (flips : Flips mask (code_length c) is) (q : ℕ) (on : Restartable mask (code_length c) is q) where
    -- before the lowest flipped index the rules are trial 1's
    agree : (i : ℕ) → i ≤ lowest is → (j : ℕ) → 0 ≤ j → j < i → mask_rule mask j ≡ flip_rule mask is j
    agree i l j _ m = sym (rule-before flips j (omega arith))

    -- the trial begins with what is forced
    pub begins : forced_prefix (first_trial mask c v).bits (lowest is) q ≡ take q (trial_from 0 mask c v is).bits
    begins =
        let b : List ℕ = (first_trial mask c v).bits in
        let short : q ≤ length b = omega (arith, on.most, first-length) in
        lt_cases (lowest is) q
        (λ l. forced-past b (lowest is) q l short
        ∙ begins-flipped c.n (mask_rule mask) (flip_rule mask is) v (lowest is) q l on.most (λ j m. sym (rule-before flips j m)) (lowest_usual flips) (lowest_opposite flips)
        (λ j m k. rule-zero flips j (on.between j m k)))
        (λ l. forced-before b (lowest is) q l short ∙ bits-before c.n [] (mask_rule mask) (flip_rule mask is) v none q (agree q l) on.most)

    prefix-begins : prefix q ≡ take (length (prefix q)) (trial_from 0 mask c v is).bits
    prefix-begins = begins ∙ ap (λ (k : ℕ). take k (trial_from 0 mask c v is).bits) (sym (length-prefix q on.most))

    short : Short c.n (prefix q)
    short = omega (arith, length-prefix q on.most, on.most)

    pub same_bits : (trial_from q mask c v is).bits ≡ (trial_from 0 mask c v is).bits
    same_bits = restart-bits c.n [] (prefix q) (flip_rule mask is) (flip_rule mask is) v none short (omega arith) prefix-begins (λ _ _ _. refl)

    -- the leaf values from q on
    pub same-leaves : (trial_from q mask c v is).leaves ≡ drop q (trial_from 0 mask c v is).leaves
    same-leaves =
        restart-leaves c.n [] (prefix q) (flip_rule mask is) (flip_rule mask is) v none short (omega arith) prefix-begins (λ _ _ _. refl) q
        (zero-add q ∙ sym (length-prefix q on.most))

    pub same-leaf : (j : ℕ) → j < code_length c → mask_bit mask j ≡ 1 → leaf_at q (first_trial mask c v) (trial_from q mask c v is) j ≡ get_or (trial_from 0 mask c v is).leaves j (pos 0)
    same-leaf j l e =
        lt_cases j q
        (λ m. rw lt-ltb (leaf-at c.n [] (mask_rule mask) (flip_rule mask is) v none j (agree j (not_above m)) j (zero-add j) l))
        (λ m.
        let back : q + (j - q) ≡ j = omega arith in
        rw le-ltb
        (ap (λ (xs : List ℤ). get_or xs (j - q) (pos 0)) same-leaves ∙ get_or-drop q (trial_from 0 mask c v is).leaves (j - q) (pos 0)
        ∙ ap (λ (k : ℕ). get_or (trial_from 0 mask c v is).leaves k (pos 0)) back))
      where
        -- an information index below q is not past the lowest flipped one
        not_above : j < q → j ≤ lowest is
        not_above m =
            lt_cases (lowest is) j (λ k. let u : ◌≡◌ {A = ℕ} 1 0 = sym e ∙ on.between j k m in absurd (omega arith)) (λ k. k)
