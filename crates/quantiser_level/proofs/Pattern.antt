-- What the bits of an f32 say of it: its magnitude, and the whole number nearest to four times that.
use mathlib.Core.Path.{◌≡◌, refl, sym, ap, ◌∙◌, subst}
use mathlib.Core.Logic.{inl, inr}
use mathlib.Core.Bool.{Bool, true, false, not, cond}
use Prim.Native.Nat.{ℕ, zero, suc, ◌+◌, ◌-◌, ◌*◌, ◌/◌, ◌%◌, ◌^◌, ◌≤◌, ◌<◌, min, max}
use native.Mathlib.Nat.{lt_of_lt_of_le, le_trans, le_of_suc-le-suc, le-add_right, eq-or-lt_of_le, min-eq_left, mul_assoc, mul_left_comm, mul-le-mul_left, mul-le-mul_right}
use native.Mathlib.Omega.{arith}
use borrow.Author.Tests.{ne_eqb, lt-leb, ltb-true, ltb-false}
use lib.Dec.{T, leb, ltb, eqb, lit≤, eqb-suc-zero}
use lib.Ieee.{Float, nan, inf, fin, binary32, up, down, odd, fits, is_nan, nan_bits, of_fields, of_bits, to_bits}
use lib.Ieee.Bits.{of_bits-to_bits, nan_bits_is, nan_bits_above}
use lib.Ieee.Exact.{HasValue, odd_sign}
use lib.Ieee.Fits.{down_pos}
use lib.Pow.{pow_pos, pow_mono, pow-add, shl_lt}
use Rattle.quantiser_level.specs.Level.{magnitude, nearest, quarters}
use Rattle.quantiser_level.proofs.Nearest.{nearest-same, nearest_zero, nearest_least}

-- a pattern is a sign, an exponent's field and digits
abbrev fields_of : ℕ → Float
fields_of b = of_fields binary32 (leb 0x8000_0000 b) (b % 0x8000_0000 / 0x80_0000) (b % 0x80_0000)

of_bits_fields : (b : ℕ) → of_bits binary32 b ≡ fields_of b
unfolding of_bits
of_bits_fields b = refl

-- ---- the magnitude has the sign bit cleared

magnitude-odd : (d : ℕ) (s : Bool) (q k l : ℕ) → magnitude (odd d s q k l) ≡ odd d false q k l
unfolding odd magnitude
magnitude-odd d s zero k l = refl
magnitude-odd d s (suc q) k l = refl

magnitude_cond : (a b : Bool) (s : Bool) (v : Float) → magnitude (cond a (cond b (inf s) nan) v) ≡ cond a (cond b (inf false) nan) (magnitude v)
unfolding magnitude
magnitude_cond true true s v = refl
magnitude_cond true false s v = refl
magnitude_cond false b s v = refl

magnitude-fields : (s : Bool) (x t : ℕ) → magnitude (of_fields binary32 s x t) ≡ of_fields binary32 false x t
unfolding of_fields
magnitude-fields s zero t = magnitude-odd 24 s t 0 149
magnitude-fields s (suc x) t = magnitude_cond (eqb (suc x) 255) (eqb t 0) s _ ∙ ap (cond (eqb (suc x) 255) _) (magnitude-odd 24 s (0x80_0000 + t) x 149)

cleared-fields : (b : ℕ) → of_bits binary32 (b % 0x8000_0000) ≡ magnitude (of_bits binary32 b)
cleared-fields b =
    let s : leb 0x8000_0000 (b % 0x8000_0000) ≡ false = lt-leb 0x8000_0000 (b % 0x8000_0000) (omega arith) in
    let x : b % 0x8000_0000 % 0x8000_0000 ≡ b % 0x8000_0000 = omega arith in
    let t : b % 0x8000_0000 % 0x80_0000 ≡ b % 0x80_0000 = omega arith in
    of_bits_fields (b % 0x8000_0000) ∙ rw (s, x, t) (sym (ap magnitude (of_bits_fields b) ∙ magnitude-fields _ _ _))

module _ (p : Float) (held : T (fits binary32 p)) where
  pub magnitude-bits : of_bits binary32 (to_bits binary32 p % 0x8000_0000) ≡ magnitude p
  magnitude-bits = cleared-fields (to_bits binary32 p) ∙ ap magnitude (of_bits-to_bits binary32 p held)

  -- a number's magnitude is a number
  pub cleared-number : T (not (is_nan p)) → T (not (nan_bits binary32 (to_bits binary32 p % 0x8000_0000)))
  cleared-number n =
      let b = to_bits binary32 p in
      let again : b % 0x8000_0000 % 0x8000_0000 ≡ b % 0x8000_0000 = omega arith in
      rw (nan_bits_above, again, ← nan_bits_above binary32 b, nan_bits_is, of_bits-to_bits binary32 p held) n

-- ---- the exact value, in units of 2^-149

abbrev units : ℕ → ℕ → ℕ
units zero t = t * 2 ^ 0
units (suc x) t = (0x80_0000 + t) * 2 ^ x

has_value : (s : Bool) (x t : ℕ) → x < 255 → HasValue (of_fields binary32 s x t) s (units x t) (2 ^ 149)
unfolding of_fields
has_value s zero t h = odd_sign 24 s t 0 149
has_value s (suc x) t h = rw (ne_eqb (suc x) 255 (λ e. omega arith)) (odd_sign 24 s (0x80_0000 + t) x 149)

-- by any fraction that the value equals
quarters-value : (v : Float) (s : Bool) (a c : ℕ) → 0 < c → HasValue v s a c → quarters v ≡ nearest (4 * a) c
unfolding quarters
quarters-value nan s a c C h = absurd h
quarters-value (inf t) s a c C h = absurd h
quarters-value (fin t m e) s a c C h = nearest-same (4 * (m * up e)) (down e) (4 * a) c (down_pos e) C (simp mul_assoc (ap (λ (z : ℕ). 4 * z) (simp mul_assoc at h.1)))

quarters-fields : (s : Bool) (x t : ℕ) → x < 255 → quarters (of_fields binary32 s x t) ≡ nearest (4 * units x t) (2 ^ 149)
quarters-fields s x t h = quarters-value (of_fields binary32 s x t) s (units x t) (2 ^ 149) (pow_pos 149) (has_value s x t h)

-- Below 1/8. `omega` takes no number of more than 38 digits: U stands for 2^146.
small : (a U : ℕ) → a < U → 2 * (4 * a) < 8 * U
small a U h = omega arith

units_small : (x t : ℕ) → x < 124 → t < 0x80_0000 → units x t < 2 ^ 146
units_small zero t X H = shl_lt 146 0 (lt_of_lt_of_le H (pow_mono {i = 23} {j = 146} (lit≤ tt)))
units_small (suc x) t X H = lt_of_lt_of_le (shl_lt 24 x (omega arith)) (pow_mono {i = 24 + x} {j = 146} (omega arith))

quarters-small : (s : Bool) (x t : ℕ) → x < 124 → t < 0x80_0000 → quarters (of_fields binary32 s x t) ≡ 0
quarters-small s x t X H =
    quarters-fields s x t (omega arith) ∙ nearest_zero (4 * units x t) (2 ^ 149) (small (units x t) (2 ^ 146) (units_small x t X H))

-- 8 or more
large : (a U : ℕ) → 64 * U ≤ a → 32 * (8 * U) ≤ 4 * a
large a U h = omega arith

units-large : (x t : ℕ) → 130 ≤ x → 64 * 2 ^ 146 ≤ units x t
units-large zero t X = absurd (omega arith)
units-large (suc x) t X =
    le_trans (mul-le-mul_left 0x80_0000 (pow_mono {i = 129} (le_of_suc-le-suc X))) (mul-le-mul_right (2 ^ x) (le-add_right 0x80_0000 t))

quarters_infinite : (s : Bool) (t : ℕ) → T (not (is_nan (of_fields binary32 s 255 t))) → 32 ≤ quarters (of_fields binary32 s 255 t)
unfolding of_fields is_nan quarters
quarters_infinite s zero n = lit≤ tt
quarters_infinite s (suc t) n = absurd (rw eqb-suc-zero at n)

quarters-large : (s : Bool) (x t : ℕ) → 130 ≤ x → x < 256 → T (not (is_nan (of_fields binary32 s x t))) → 32 ≤ quarters (of_fields binary32 s x t)
quarters-large s x t X H n = elim (eq-or-lt_of_le (le_of_suc-le-suc H)) [
  | inl e ↦ subst (λ (y : ℕ). T (not (is_nan (of_fields binary32 s y t))) → 32 ≤ quarters (of_fields binary32 s y t)) (sym e) (quarters_infinite s t) n
  | inr l ↦ rw (quarters-fields s x t l) (nearest_least 32 (4 * units x t) (2 ^ 149) (pow_pos 149) (large (units x t) (2 ^ 146) (units-large x t X)))
]

-- between: 4|p| is the significand, shifted, in units of 2^-25
scaled : (q u w : ℕ) → 4 * (q * (u * w)) * 0x200_0000 ≡ q * u * (0x800_0000 * w)
scaled q u w = omega (arith, mul_left_comm (q * u) 0x800_0000 w, mul_assoc q u w)

quarters_between : (s : Bool) (x t : ℕ) → 123 ≤ x → x < 255 → quarters (of_fields binary32 s x t) ≡ nearest ((0x80_0000 + t) * 2 ^ (x - 123)) 0x200_0000
quarters_between s zero t L H = absurd (omega arith)
quarters_between s (suc x) t L H =
    let k = suc x - 123 in
    let e : x ≡ k + 122 = omega arith in
    quarters-fields s (suc x) t H
    ∙ ap (λ (y : ℕ). nearest (4 * ((0x80_0000 + t) * y)) (2 ^ 149)) (ap (λ (y : ℕ). 2 ^ y) e ∙ pow-add 2 k 122)
    ∙ nearest-same (4 * ((0x80_0000 + t) * (2 ^ k * 2 ^ 122))) (2 ^ 149) ((0x80_0000 + t) * 2 ^ k) 0x200_0000 (pow_pos 149) (pow_pos 25) (scaled (0x80_0000 + t) (2 ^ k) (2 ^ 122))

-- the significand of the bits c, shifted so
abbrev pub shifted : ℕ → ℕ
shifted c = (0x80_0000 + c % 0x80_0000) * 2 ^ (c / 0x80_0000 - 123)

-- a shift of at most six leaves 30 bits
pub shifted_lt : (c : ℕ) → c ≤ 0x40ff_ffff → shifted c < 0x4000_0000
shifted_lt c h = lt_of_lt_of_le (shl_lt 24 (c / 0x80_0000 - 123) (omega arith)) (pow_mono {i = 24 + (c / 0x80_0000 - 123)} {j = 30} (omega arith))

-- what the code makes of the bits m of a magnitude
abbrev clamp : ℕ → ℕ
clamp m = max 0x3dff_ffff (min m 0x40ff_ffff)

abbrev converted : ℕ → ℕ
converted c = nearest (shifted c) 0x200_0000

converted-is : (n m : ℕ) → (m < 0x3e00_0000 → n ≡ 0) → (0x3e00_0000 ≤ m → m ≤ 0x40ff_ffff → n ≡ converted m) → (0x40ff_ffff < m → 32 ≤ n) → converted (clamp m) ≡ min 32 n
converted-is n m low between high = by (ltb m 0x3e00_0000) (ltb 0x40ff_ffff m) refl refl
  where
    by : (a b : Bool) → ltb m 0x3e00_0000 ≡ a → ltb 0x40ff_ffff m ≡ b → converted (clamp m) ≡ min 32 n
    by true b e f =
        let under : m < 0x3e00_0000 = ltb-true m 0x3e00_0000 e in
        let l : clamp m ≡ 0x3dff_ffff = omega arith in
        ap converted l ∙ sym (ap (min 32) (low under))
    by false true e f =
        let over : 0x40ff_ffff < m = ltb-true 0x40ff_ffff m f in
        let l : clamp m ≡ 0x40ff_ffff = omega arith in
        ap converted l ∙ sym (min-eq_left (high over))
    by false false e f =
        let from : 0x3e00_0000 ≤ m = ltb-false m 0x3e00_0000 e in
        let to : m ≤ 0x40ff_ffff = ltb-false 0x40ff_ffff m f in
        let l : clamp m ≡ m = omega arith in
        ap converted l ∙ omega (arith, shifted_lt m to, between from to)

quarters_pattern : (b : ℕ) → T (not (is_nan (fields_of b))) → converted (clamp (b % 0x8000_0000)) ≡ min 32 (quarters (fields_of b))
quarters_pattern b n =
    let s = leb 0x8000_0000 b in
    let m = b % 0x8000_0000 in
    let x = m / 0x80_0000 in
    let t = b % 0x80_0000 in
    let e : t ≡ m % 0x80_0000 = omega arith in
    converted-is (quarters (fields_of b)) m
    (λ l. quarters-small s x t (omega arith) (omega arith))
    (λ l u. quarters_between s x t (omega arith) (omega arith) ∙ ap (λ (y : ℕ). nearest ((0x80_0000 + y) * 2 ^ (x - 123)) 0x200_0000) e)
    (λ l. quarters-large s x t (omega arith) (omega arith) n)

pub quarters-bits : (p : Float) → T (fits binary32 p) → T (not (is_nan p)) → converted (clamp (to_bits binary32 p % 0x8000_0000)) ≡ min 32 (quarters p)
quarters-bits p held number =
    let b = to_bits binary32 p in
    let e : fields_of b ≡ p = sym (of_bits_fields b) ∙ of_bits-to_bits binary32 p held in
    quarters_pattern b (rw e number) ∙ ap (λ (v : Float). min 32 (quarters v)) e
