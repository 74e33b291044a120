-- The coefficients of numbers, as the words of the register.
use mathlib.Core.Path.{◌≡◌, refl, sym, ap, ap₂, ◌∙◌}
use Prim.Native.Nat.{ℕ, zero, suc, ◌+◌, ◌-◌, ◌*◌, ◌/◌, ◌%◌, ◌^◌, ◌≤◌, ◌<◌}
use native.Mathlib.Nat.{add-zero, zero-mul, one-mul, mod-lt, zero-lt-suc, mod-eq_of_lt, add-mod-mod, div-lt_iff_lt-mul, two-pow-succ}
use native.Mathlib.Omega.{arith}
use lib.Bits.{bit_and, bit_xor, and_mask, xor_lt}
use lib.Pow.{pow_pos}
use Rattle.laws.proofs.Powers.{one_shl}
use Rattle.bits.specs.Bit.{bit, bits_of}
use Rattle.bits.proofs.Bitwise.{bit-low, bit_up, bit-zero, xor-bits, bit-xor}
use Rattle.bits.proofs.BitsOf.{bits_of-mod}
use Rattle.crc.specs.Polynomial.{raised, add_highest, scale}
use Rattle.crc.specs.Clauses.{step}
use Rattle.crc.proofs.Polynomial.{cons}

-- an exclusive-or is a sum
bits_of-xor : (w x y : ℕ) → bits_of w (bit_xor x y) ≡ add_highest (bits_of w x) (bits_of w y)
bits_of-xor zero x y = refl
bits_of-xor (suc w) x y = cons (bit-xor x y w) (bits_of-xor w x y)

-- a shift by one is a product with z
bits_of_double : (w x : ℕ) → bits_of (suc w) (x * 2) ≡ raised (bits_of w x) 1
bits_of_double zero x = cons (rw add-zero at (bit-low x 0 (omega arith))) refl
bits_of_double (suc w) x = cons (rw add-zero at (bit_up x 0 w (omega arith))) (bits_of_double w x)

-- a product with a coefficient
bits_of-scale : (w a x : ℕ) → a < 2 → bits_of w (a * x) ≡ scale a (bits_of w x)
bits_of-scale zero a x h = refl
bits_of-scale (suc w) zero x h = cons (simp zero-mul (bit-zero w)) (bits_of-scale w 0 x h)
bits_of-scale (suc w) (suc zero) x h = cons (simp one-mul) (bits_of-scale w 1 x h)
bits_of-scale (suc w) (suc (suc a)) x h = absurd (omega arith)

-- ---- the register's step

-- `x & ((1 << r) - 1)`
pub masked : (r x : ℕ) → r ≤ 16 → bit_and x (1 * 2 ^ r % 2 ^ 32 - 1) ≡ x % 2 ^ r
masked r x h = ap (λ (m : ℕ). bit_and x (m - 1)) (one_shl r 32 (omega arith)) ∙ and_mask x r

-- the register has no bit above the highest coefficient
pub highest_lt : (r register : ℕ) → 1 ≤ r → register < 2 ^ r → register / 2 ^ (r - 1) < 2
highest_lt zero register s h = absurd (omega arith)
highest_lt (suc w) register s h =
    let e : suc w - 1 ≡ w = omega arith in
    rw e ((div-lt_iff_lt-mul (pow_pos w)).1 (omega (arith, two-pow-succ w)))

-- the coefficient that leaves: the highest one, with the next bit added
pub leaving : (r register next : ℕ) → 1 ≤ r → register < 2 ^ r → bit_xor (register / 2 ^ (r - 1)) (next % 2) ≡ (bit register (r - 1) + next) % 2
leaving r register next s h =
    let top = highest_lt r register s h in
    xor-bits (register / 2 ^ (r - 1)) (next % 2) top (mod-lt next (zero-lt-suc 1))
    ∙ add-mod-mod (register / 2 ^ (r - 1)) next 2
    ∙ ap (λ (x : ℕ). (x + next) % 2) (sym (mod-eq_of_lt top))

-- a coefficient times a word is no longer than the word
scaled_lt : (a x n : ℕ) → a < 2 → x < n → a * x < n
scaled_lt zero x n h l = omega arith
scaled_lt (suc zero) x n h l = omega arith
scaled_lt (suc (suc a)) x n h l = absurd (omega arith)

-- the word that a step makes: the coefficient that leaves times the feedback, added to the register moved up by one place
abbrev stepped : ℕ → ℕ → ℕ → ℕ → ℕ
stepped r word register out = bit_xor (out * word) (bit_and (register * 2 % 2 ^ 32) (1 * 2 ^ r % 2 ^ 32 - 1))

pub stepped_lt : (r word register out : ℕ) → r ≤ 16 → word < 2 ^ r → out < 2 → stepped r word register out < 2 ^ r
stepped_lt r word register out h l o =
    xor_lt r (out * word) _ (scaled_lt out word (2 ^ r) o l) (rw (masked r (register * 2 % 2 ^ 32) h) (mod-lt (register * 2 % 2 ^ 32) (pow_pos r)))

pub bits_of-stepped : (r word register next : ℕ) → 1 ≤ r → r ≤ 16
    → bits_of r (stepped r word register ((bit register (r - 1) + next) % 2)) ≡ step (bits_of r word) (bits_of r register) next
bits_of-stepped zero word register next s h = absurd (omega arith)
bits_of-stepped (suc w) word register next s h =
    let e : suc w - 1 ≡ w = omega arith in
    let out = (bit register w + next) % 2 in
    ap (λ (i : ℕ). bits_of (suc w) (stepped (suc w) word register ((bit register i + next) % 2))) e
    ∙ bits_of-xor (suc w) (out * word) _
    ∙ ap₂ add_highest (bits_of-scale (suc w) out word (mod-lt (bit register w + next) (zero-lt-suc 1)))
    (ap (bits_of (suc w)) (masked (suc w) (register * 2 % 2 ^ 32) h)
    ∙ bits_of-mod (suc w) (suc w) (register * 2 % 2 ^ 32) (omega arith)
    ∙ bits_of-mod (suc w) 32 (register * 2) (omega arith)
    ∙ bits_of_double w register)
