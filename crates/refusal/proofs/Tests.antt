-- What the tests of a refusal say if they fail.
use mathlib.Core.Path.{◌≡◌, ap, ap₂}
use mathlib.Core.Bool.{false, not, ◌||◌}
use Prim.Native.Nat.{ℕ, ◌≤◌}
use borrow.Author.Tests.{ltb-false, eqb-true, not-false, eq-eqb, le-ltb}
use Rattle.laws.proofs.Choice.{or_false}
use Rattle.refusal.specs.Judge.{outside, differs}

pub differs-past : (a b : ℕ) → differs a b ≡ false → a ≡ b
differs-past a b e = eqb-true a b (not-false _ e)

pub outside-past : (x least most : ℕ) → outside x least most ≡ false → (least ≤ x) × (x ≤ most)
outside-past x least most e =
    let b = or_false _ _ e in (ltb-false x least b.0, ltb-false most x b.1)

pub differs_no : (a b : ℕ) → a ≡ b → differs a b ≡ false
differs_no a b e = ap not (eq-eqb a b e)

pub outside_no : (x least most : ℕ) → least ≤ x → x ≤ most → outside x least most ≡ false
outside_no x least most l m = ap₂ ◌||◌ (le-ltb x least l) (le-ltb most x m)
