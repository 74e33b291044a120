-- `encoder::has_unused_bit` meets its contract: a whole last byte leaves no bit unused.
use mathlib.Core.Path.{◌≡◌, sym, ap, ◌∙◌, subst}
use mathlib.Core.Bool.{not}
use mathlib.Core.List.{List}
use Prim.Native.Nat.{ℕ, ◌*◌, ◌-◌, ◌/◌, ◌%◌, ◌^◌, ◌≤◌, ◌<◌}
use native.Mathlib.Nat.{zero-mod}
use native.Mathlib.Omega.{arith}
use borrow.Author.Rules.{rules}
use borrow.Author.Tests.{eq-eqb}
use lib.Dec.{eqb}
use lib.ListN.{length, get_or, get_or-eq_default}
use lib.Pow.{pow_pos}
use Rattle.laws.proofs.Powers.{one_shl}
use Rattle.bits.specs.Packing.{bytes_for, unused_bits}
use Rattle.encoder.proofs.has_unused_bit.Statement.{statement}
use Rattle.encoder.proofs.has_unused_bit.Tie as tie

-- byte k / 8 is after the last one
none-unused : (payload : List ℕ) (k : ℕ) → length payload ≡ bytes_for k → k % 8 ≡ 0 → unused_bits payload k ≡ 0
none-unused payload k e z =
    let past : length payload ≤ k / 8 = omega arith in
    ap (λ (x : ℕ). x % 2 ^ (8 - k % 8)) (get_or-eq_default payload 0 past) ∙ zero-mod (2 ^ (8 - k % 8))

-- `1 << (8 - k % 8)` within a byte
low_bits : (k : ℕ) → (k % 8 ≡ 0 → ⊥) → 1 * 2 ^ (8 - k % 8) % 256 ≡ 2 ^ (8 - k % 8)
low_bits k h = one_shl (8 - k % 8) 8 (omega arith)

-- a power of two within a byte is not 0
shl-pos : (i : ℕ) → i < 8 → 0 < 1 * 2 ^ i % 256
shl-pos i l = subst (λ (x : ℕ). 0 < x) (sym (one_shl i 8 l)) (pow_pos i)

rem-result : tie.Need-nonzero_rem-result-2
rem-result c = shl-pos _ (omega arith)

returns-2 : tie.Need-returns
returns-2 c =
    let k = c.args.k in
    ap (λ (x : ℕ). not (eqb (get_or c.args.payload.now (k / 8) 0 % x) 0)) (low_bits k c.if-k-eq0.false)

pub has_unused_bit_spec : {M : Type 1} → statement M
has_unused_bit_spec =
    tie.close
    (tie.spec
    (λ c. sym (ap not (eq-eqb _ _ (none-unused c.args.payload.now _ c.requires c.if-k-eq0.true))))
    (λ c. search rules)
    (λ c. search rules)
    (λ c. search rules)
    (λ c. search rules)
    rem-result
    returns-2)
