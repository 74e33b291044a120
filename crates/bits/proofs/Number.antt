-- Numbers and their bits, the highest first.
use mathlib.Core.Path.{◌≡◌, refl, sym, ap, ap₂, ◌∙◌, subst}
use Prim.Native.Nat.{ℕ, zero, suc, ◌+◌, ◌-◌, ◌*◌, ◌/◌, ◌%◌, ◌^◌, ◌<◌, ◌≤◌}
use native.Mathlib.Nat.{add-zero, add-suc, mul_assoc, pow-suc, div-one}
use native.Mathlib.Numerals.{add-one}
use native.Mathlib.Omega.{arith}
use lib.Arith.{digits_lt}
use lib.Pow.{shr_lt}
use Rattle.bits.specs.Bit.{bit, number}
use Rattle.bits.proofs.Bitwise.{shr_one, bit-low, bit_up}

-- w bits make a number below 2^w
pub number_lt : (f : ℕ → ℕ) (w : ℕ) → ((i : ℕ) → f i < 2) → number f w < 2 ^ w
unfolding number
number_lt f zero h = omega arith
number_lt f (suc w) h = subst (λ (x : ℕ). number f w * 2 + f w < x) (sym (pow-suc 2 w)) (digits_lt (number_lt f w h) (h w))

-- the bits of the number are those that it was made of
pub bit-number : (f : ℕ → ℕ) (w i : ℕ) → ((k : ℕ) → f k < 2) → i < w → bit (number f w) (w - (i + 1)) ≡ f i
unfolding number
bit-number f zero i h l = absurd (omega arith)
bit-number f (suc w) i h l = go (w - i) refl (bit-number f w i h)
  where
    go : (d : ℕ) → w - i ≡ d → (i < w → bit (number f w) (w - (i + 1)) ≡ f i) → bit (number f w * 2 + f w) (suc w - (i + 1)) ≡ f i
    go zero e below =
        let q : w ≡ i = omega arith in
        let z : suc w - (i + 1) ≡ 0 = omega arith in
        ap (bit (number f w * 2 + f w)) z ∙ bit-low (number f w) (f w) (h w) ∙ ap f q
    go (suc d) e below =
        let z : suc w - (i + 1) ≡ suc (w - (i + 1)) = omega arith in
        ap (bit (number f w * 2 + f w)) z ∙ bit_up (number f w) (f w) (w - (i + 1)) (h w) ∙ below (omega arith)

-- numbers made of the same bits
pub number_ext : (f g : ℕ → ℕ) (w : ℕ) → ((i : ℕ) → i < w → f i ≡ g i) → number f w ≡ number g w
unfolding number
number_ext f g zero h = refl
number_ext f g (suc w) h = ap₂ (λ (x y : ℕ). x * 2 + y) (number_ext f g w (λ i l. h i (omega arith))) (h w (omega arith))

-- a number of w digits is made of its bits
pub number_bit : (w x : ℕ) → x < 2 ^ w → number (λ i. bit x (w - (i + 1))) w ≡ x
unfolding number
number_bit zero x h = let h' : x < 1 = h in omega arith
number_bit (suc w) x h =
    let half : x / 2 < 2 ^ w = shr_lt w 1 (subst (λ (k : ℕ). x < 2 ^ k) (sym (add-one w)) h) in
    let high : number (λ i. bit x (suc w - (i + 1))) w ≡ x / 2 =
    number_ext _ _ w (λ i l. later i l) ∙ number_bit w (x / 2) half in
    let z : suc w - (w + 1) ≡ 0 = omega arith in
    let low : bit x (suc w - (w + 1)) ≡ x % 2 = ap (bit x) z ∙ ap (λ (y : ℕ). y % 2) (div-one x) in
    ap₂ (λ (a b : ℕ). a * 2 + b) high low ∙ omega arith
  where
    later : (i : ℕ) → i < w → bit x (suc w - (i + 1)) ≡ bit (x / 2) (w - (i + 1))
    later i l =
        let z : suc w - (i + 1) ≡ suc (w - (i + 1)) = omega arith in
        ap (bit x) z ∙ ap (λ (y : ℕ). y % 2) (sym (shr_one x (w - (i + 1))))

-- a number whose bits after the first w are zero
pub number-zeros : (f : ℕ → ℕ) (w m : ℕ) → ((b : ℕ) → w ≤ b → f b ≡ 0) → number f (w + m) ≡ number f w * 2 ^ m
unfolding number
number-zeros f w zero zeros = ap (number f) (add-zero w) ∙ omega arith
number-zeros f w (suc m) zeros =
    let none : f (w + m) ≡ 0 = zeros (w + m) (omega arith) in
    let more : number f w * 2 ^ suc m ≡ number f w * 2 ^ m * 2 = ap (λ (x : ℕ). number f w * x) (pow-suc 2 m) ∙ sym (mul_assoc (number f w) (2 ^ m) 2) in
    ap (number f) (add-suc w m) ∙ omega (arith, number-zeros f w m zeros)
