-- Indices to flip: where the lowest of them lies, and the rule that each index has.
use mathlib.Core.Path.{◌≡◌, refl, sym, ap, ◌∙◌, subst}
use mathlib.Core.Bool.{Bool, true, false, ◌||◌, cond, false≢true}
use mathlib.Core.List.{List, [], ◌∷◌}
use Prim.Native.Nat.{ℕ, zero, suc, ◌≤◌, ◌<◌, suc-le-suc}
use native.Mathlib.Omega.{arith}
use borrow.Author.Tests.{eqb-true, eq-eqb}
use lib.Dec.{eqb}
use lib.ListN.{length, get_or}
use Rattle.bits.specs.Mask.{mask_bit}
use Rattle.values.specs.Values.{frozen, usual, opposite, mask_rule}
use Rattle.values.proofs.Rules.{rule_usual, rule-frozen}
use Rattle.flip_trial.specs.Trial.{member, flip_rule, lowest}
use Rattle.flip_trial.specs.Flips.{Flips}

-- what holds of each of some indices holds of a member
pub member-each : (P : ℕ → Type 0) (is : List ℕ) → ((a : ℕ) → a < length is → P (get_or is a 0)) → (j : ℕ) → member j is ≡ true → P j
member-each P [] each j e = absurd (false≢true e)
member-each P (i ∷ is) each j e = go (member-each P is (λ a l. each (suc a) (suc-le-suc l)) j) (eqb j i) refl e
  where
    go : (member j is ≡ true → P j) → (t : Bool) → eqb j i ≡ t → t || member j is ≡ true → P j
    go later true f e = subst P (sym (eqb-true j i f)) (each 0 (omega arith))
    go later false f e = later e

-- an index that none of them is
member-none : (is : List ℕ) (j : ℕ) → ((a : ℕ) → a < length is → get_or is a 0 ≡ j → ⊥) → member j is ≡ false
member-none is j each = go (member j is) refl
  where
    go : (t : Bool) → member j is ≡ t → t ≡ false
    go true e = absurd (member-each (λ k. k ≡ j → ⊥) is each j e refl)
    go false e = refl

-- the lowest is the first
pub lowest-is : (is : List ℕ) → lowest is ≡ get_or is 0 0
lowest-is [] = refl
lowest-is (i ∷ is) = refl

lowest-member : (is : List ℕ) → 0 < length is → member (lowest is) is ≡ true
lowest-member [] l = absurd (omega arith)
lowest-member (i ∷ is) l = ap (λ (t : Bool). t || member i is) (eq-eqb i i refl)

-- an index that is not flipped
rule-kept : (mask is : List ℕ) (j : ℕ) → member j is ≡ false → flip_rule mask is j ≡ mask_rule mask j
rule-kept mask is j e = ap (λ (t : Bool). cond t opposite (mask_rule mask j)) e

module _ {mask : List ℕ} {size : ℕ} {is : List ℕ} (p : Flips mask size is) where
  pub lowest-below : lowest is < size
  lowest-below = omega (arith, lowest-is is, p.below 0 p.some)

  pub lowest_usual : mask_rule mask (lowest is) ≡ usual
  lowest_usual = rule_usual mask (lowest is) (ap (mask_bit mask) (lowest-is is) ∙ p.information 0 p.some)

  pub lowest_opposite : flip_rule mask is (lowest is) ≡ opposite
  lowest_opposite = ap (λ (t : Bool). cond t opposite (mask_rule mask (lowest is))) (lowest-member is p.some)

  lowest_least : (a : ℕ) → a < length is → lowest is ≤ get_or is a 0
  lowest_least zero l = omega (arith, lowest-is is)
  lowest_least (suc a) l = omega (arith, lowest-is is, p.ascending 0 (suc a) (omega arith) l)

  -- before the lowest all rules are trial 1's
  pub rule-before : (j : ℕ) → j < lowest is → flip_rule mask is j ≡ mask_rule mask j
  rule-before j l = rule-kept mask is j (member-none is j (λ a m e. omega (arith, lowest_least a m)))

  -- a frozen index is not flipped
  pub rule-zero : (j : ℕ) → mask_bit mask j ≡ 0 → flip_rule mask is j ≡ frozen
  rule-zero j z =
      rule-kept mask is j (member-none is j (λ a m e. let u : ◌≡◌ {A = ℕ} 1 0 = sym (p.information a m) ∙ ap (mask_bit mask) e ∙ z in omega arith))
      ∙ rule-frozen mask j z

-- one index to flip
pub flips_one : {mask : List ℕ} {size i : ℕ} → i < size → mask_bit mask i ≡ 1 → Flips mask size (i ∷ [])
flips_one {mask} {size} {i} l e = record { some = omega arith; below = each (λ k. k < size) l; information = each (λ k. mask_bit mask k ≡ 1) e; ascending = λ a b m n. absurd (omega arith) }
  where
    each : (P : ℕ → Type 0) → P i → (a : ℕ) → a < 1 → P (get_or (i ∷ []) a 0)
    each P x zero m = x
    each P x (suc a) m = absurd (omega arith)
