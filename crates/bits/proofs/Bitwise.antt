-- The bits of a number: after shifts, and under exclusive-or, and, or.
use mathlib.Core.Path.{◌≡◌, refl, sym, ap, ◌∙◌}
use Prim.Native.Nat.{ℕ, zero, suc, ◌+◌, ◌-◌, ◌*◌, ◌/◌, ◌%◌, ◌^◌, ◌<◌}
use native.Mathlib.Nat.{mod-lt, zero-lt-suc, div-one, div-eq_of_lt}
use native.Mathlib.Numerals.{one-add}
use native.Mathlib.Omega.{arith}
use lib.Pow.{shr-shr, field, mod-mod-pow, pow_pos}
use lib.Bits.{bit_and, bit_xor, xor_shr, xor_mod}
use Rattle.bits.specs.Bit.{bit}

pub bit_lt : (x i : ℕ) → bit x i < 2
bit_lt x i = mod-lt (x / 2 ^ i) (zero-lt-suc 1)

-- a shift by one, then by i
pub shr_one : (x i : ℕ) → x / 2 / 2 ^ i ≡ x / 2 ^ suc i
shr_one x i = shr-shr x 1 i ∙ ap (λ (k : ℕ). x / 2 ^ k) (one-add i)

-- a bit appended below
pub bit-low : (x c : ℕ) → c < 2 → bit (x * 2 + c) 0 ≡ c
bit-low x c h = ap (λ (y : ℕ). y % 2) (div-one (x * 2 + c)) ∙ omega arith

pub bit_up : (x c i : ℕ) → c < 2 → bit (x * 2 + c) (suc i) ≡ bit x i
bit_up x c i h =
    let half : (x * 2 + c) / 2 ≡ x = omega arith in
    ap (λ (y : ℕ). y % 2) (sym (shr_one (x * 2 + c) i)) ∙ ap (λ (y : ℕ). bit y i) half

-- a remainder by a power of two keeps the bits below it
pub bit-mod : (x i j : ℕ) → i < j → bit (x % 2 ^ j) i ≡ bit x i
bit-mod x i j h =
    let e : j ≡ (j - (i + 1)) + 1 + i = omega arith in
    ap (λ (k : ℕ). bit (x % 2 ^ k) i) e ∙ ap (λ (y : ℕ). y % 2) (field x ((j - (i + 1)) + 1) i) ∙ mod-mod-pow (x / 2 ^ i) (j - (i + 1)) 1

pub bit-zero : (i : ℕ) → bit 0 i ≡ 0
bit-zero i = ap (λ (y : ℕ). y % 2) (div-eq_of_lt (pow_pos i))

-- what holds of the four pairs of bits holds of any two bits
pub two_bits {ℓ} : (P : ℕ → ℕ → Type ℓ) → P 0 0 → P 0 1 → P 1 0 → P 1 1 → (a b : ℕ) → a < 2 → b < 2 → P a b
two_bits P p q r s zero zero h k = p
two_bits P p q r s zero (suc zero) h k = q
two_bits P p q r s (suc zero) zero h k = r
two_bits P p q r s (suc zero) (suc zero) h k = s
two_bits P p q r s zero (suc (suc b)) h k = absurd (omega arith)
two_bits P p q r s (suc zero) (suc (suc b)) h k = absurd (omega arith)
two_bits P p q r s (suc (suc a)) b h k = absurd (omega arith)

-- an operation that commutes with shifts and remainders goes bit by bit
module _ (op on-bits : ℕ → ℕ → ℕ)
    (shifts : (a b k : ℕ) → op a b / 2 ^ k ≡ op (a / 2 ^ k) (b / 2 ^ k))
    (rems : (a b k : ℕ) → op a b % 2 ^ k ≡ op (a % 2 ^ k) (b % 2 ^ k))
    (small : (a b : ℕ) → a < 2 → b < 2 → op a b ≡ on-bits a b) where
  bitwise : (a b i : ℕ) → bit (op a b) i ≡ on-bits (bit a i) (bit b i)
  bitwise a b i =
      ap (λ (x : ℕ). x % 2) (shifts a b i) ∙ rems (a / 2 ^ i) (b / 2 ^ i) 1 ∙ small (bit a i) (bit b i) (bit_lt a i) (bit_lt b i)

-- the operations on two bits
pub xor-bits : (a b : ℕ) → a < 2 → b < 2 → bit_xor a b ≡ (a + b) % 2
xor-bits = two_bits (λ a b. bit_xor a b ≡ (a + b) % 2) refl refl refl refl

pub and_bits : (a b : ℕ) → a < 2 → b < 2 → bit_and a b ≡ a * b
and_bits = two_bits (λ a b. bit_and a b ≡ a * b) refl refl refl refl

-- and of any two numbers, bit by bit
pub bit-xor : (a b i : ℕ) → bit (bit_xor a b) i ≡ (bit a i + bit b i) % 2
bit-xor = bitwise bit_xor (λ a b. (a + b) % 2) xor_shr xor_mod xor-bits
