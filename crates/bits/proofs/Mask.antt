-- A byte's count of ones is the sum of its eight bits, so the counts of a mask's bytes add up to the number of its information indices.
use mathlib.Core.Path.{◌≡◌, refl, sym, ap, ap₂, ◌∙◌}
use mathlib.Core.List.{List}
use Prim.Native.Nat.{ℕ, zero, suc, ◌+◌, ◌*◌, ◌/◌, ◌%◌, ◌^◌, ◌≤◌, ◌<◌, zero-le}
use native.Mathlib.Nat.{add_assoc, add-zero, zero-add, add-suc, div-one, div-eq_of_lt}
use native.Mathlib.Numerals.{add-one}
use native.Mathlib.Omega.{arith}
use lib.Dec.{lit≤}
use lib.ListN.{get_or}
use lib.Count as count
use mathlib.Core.Logic.{◌⊎◌, inl, inr}
use Rattle.bits.specs.Bit.{bit}
use Rattle.bits.specs.Mask.{mask_bit, ones_below}
use Rattle.bits.specs.Claims.{byte_counts}
use Rattle.bits.proofs.Bitwise.{shr_one, bit_lt}

-- a number's count of ones is that of its w low digits and that of the rest
ones_split : (w x : ℕ) → count.ones x ≡ count.ones_in w x + count.ones (x / 2 ^ w)
unfolding count.ones_in
ones_split zero x = simp (div-one, zero-add)
ones_split (suc w) x =
    count.ones_step x ∙ ap (λ (n : ℕ). x % 2 + n) (ones_split w (x / 2))
    ∙ sym (add_assoc (x % 2) (count.ones_in w (x / 2)) (count.ones (x / 2 / 2 ^ w)))
    ∙ ap (λ (n : ℕ). x % 2 + count.ones_in w (x / 2) + count.ones n) (shr_one x w)

-- one digit more
ones_more : (w x : ℕ) → count.ones_in (suc w) x ≡ count.ones_in w x + bit x w
unfolding count.ones_in
ones_more zero x = simp (div-one, zero-add, add-zero)
ones_more (suc w) x =
    ap (λ (n : ℕ). x % 2 + n) (ones_more w (x / 2))
    ∙ sym (add_assoc (x % 2) (count.ones_in w (x / 2)) (bit (x / 2) w))
    ∙ ap (λ (n : ℕ). x % 2 + count.ones_in w (x / 2) + n % 2) (shr_one x w)

-- the count of a number of w digits
ones_of : (w x : ℕ) → x < 2 ^ w → count.ones x ≡ count.ones_in w x
unfolding count.ones count.ones_in
ones_of w x h =
    ones_split w x ∙ ap (λ (n : ℕ). count.ones_in w x + count.ones n) (div-eq_of_lt h) ∙ add-zero (count.ones_in w x)

-- bit b of byte m stands for index 8m + b
pub mask-bit : (mask : List ℕ) (m b : ℕ) → b < 8 → mask_bit mask (8 * m + b) ≡ bit (get_or mask m 0) b
mask-bit mask m b h =
    let q : (8 * m + b) / 8 ≡ m = omega arith in
    let r : (8 * m + b) % 8 ≡ b = omega arith in
    ap₂ (λ (x y : ℕ). bit (get_or mask x 0) y) q r

-- the first b bits of byte m
ones_byte : (mask : List ℕ) (m b : ℕ) → b ≤ 8 → ones_below mask (8 * m + b) ≡ ones_below mask (8 * m) + count.ones_in b (get_or mask m 0)
unfolding ones_below count.ones_in
ones_byte mask m zero h = simp add-zero
ones_byte mask m (suc b) h =
    ap (ones_below mask) (add-suc (8 * m) b)
    ∙ ap₂ (λ (x y : ℕ). x + y) (ones_byte mask m b (omega arith)) (mask-bit mask m b h)
    ∙ add_assoc (ones_below mask (8 * m)) (count.ones_in b (get_or mask m 0)) (bit (get_or mask m 0) b)
    ∙ ap (λ (n : ℕ). ones_below mask (8 * m) + n) (sym (ones_more b (get_or mask m 0)))

-- one byte more adds its count of ones
pub ones_next : (mask : List ℕ) (m : ℕ) → get_or mask m 0 < 256 → ones_below mask (8 * (m + 1)) ≡ ones_below mask (8 * m) + count.ones (get_or mask m 0)
ones_next mask m h =
    let e : 8 * (m + 1) ≡ 8 * m + 8 = omega arith in
    ap (ones_below mask) e ∙ ones_byte mask m 8 (lit≤ tt)
    ∙ ap (λ (n : ℕ). ones_below mask (8 * m) + n) (sym (ones_of 8 (get_or mask m 0) h))

-- so the counts of the bytes add up to the number of information indices
pub byte_counts-is : (mask : List ℕ) (m : ℕ) → ((i : ℕ) → get_or mask i 0 < 256) → byte_counts mask m ≡ ones_below mask (8 * m)
unfolding byte_counts ones_below
byte_counts-is mask zero h = refl
byte_counts-is mask (suc m) h =
    ap (λ (x : ℕ). x + count.ones (get_or mask m 0)) (byte_counts-is mask m h)
    ∙ sym (ones_next mask m (h m)) ∙ ap (λ (x : ℕ). ones_below mask (8 * x)) (add-one m)

-- at most one for each index
pub ones_le : (mask : List ℕ) (n : ℕ) → ones_below mask n ≤ n
unfolding ones_below
ones_le mask zero = zero-le
ones_le mask (suc n) = omega (arith, ones_le mask n, bit_lt (get_or mask (n / 8) 0) (n % 8))

-- what an index adds is its bit of the mask
pub mask_bit_lt : (mask : List ℕ) (i : ℕ) → mask_bit mask i < 2
mask_bit_lt mask i = bit_lt (get_or mask (i / 8) 0) (i % 8)

-- a bit of the mask is 0 or 1
pub mask_cases : (mask : List ℕ) (i : ℕ) → (mask_bit mask i ≡ 0) ⊎ (mask_bit mask i ≡ 1)
mask_cases mask i = go (mask_bit mask i) (mask_bit_lt mask i)
  where
    go : (b : ℕ) → b < 2 → (b ≡ 0) ⊎ (b ≡ 1)
    go zero h = inl refl
    go (suc zero) h = inr refl
    go (suc (suc b)) h = absurd (omega arith)
