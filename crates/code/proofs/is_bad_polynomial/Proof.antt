-- `code::is_bad_polynomial` meets its contract: `& 1` is bit 0.
use mathlib.Core.Path.{◌≡◌, ap, ◌∙◌, sym}
use mathlib.Core.Bool.{Bool, ◌||◌}
use Prim.Native.Nat.{ℕ, ◌%◌}
use native.Mathlib.Nat.{div-one}
use borrow.Author.Rules.{rules}
use borrow.Author.Tests.{eq-eqb, ne_eqb}
use lib.Bits.{bit_and, and_mask}
use lib.Dec.{eqb}
use Rattle.laws.proofs.Choice.{or_first, or_second}
use Rattle.bits.specs.Bit.{bit}
use Rattle.code.specs.Description.{is_wide, bad_polynomial}
use Rattle.code.proofs.is_bad_polynomial.Statement.{statement}
use Rattle.code.proofs.is_bad_polynomial.Tie as tie

bit-0 : (p : ℕ) → bit_and p 1 ≡ bit p 0
bit-0 p = and_mask p 1 ∙ ap (λ (x : ℕ). x % 2) (sym (div-one p))

-- what the two tests of the code say together
bad-is : (p r : ℕ) (t : Bool) → t ≡ (eqb (bit_and p 1) 0 || is_wide p r) → t ≡ bad_polynomial p r
bad-is p r t e = e ∙ ap (λ (x : ℕ). eqb x 0 || is_wide p r) (bit-0 p)

pub is_bad_polynomial_spec : {M : Type 1} → statement M
is_bad_polynomial_spec =
    tie.close
    (tie.spec
    (λ c κs. search rules)
    (λ c. bad-is c.before.args.p c.before.args.r _ (or_first _ _ (eq-eqb _ _ c.if-p-eq0.true)))
    (λ c. bad-is c.before.before.args.p c.before.before.args.r _ (c.is_wide.ensures ∙ or_second _ _ (ne_eqb _ _ c.before.if-p-eq0.false))))
