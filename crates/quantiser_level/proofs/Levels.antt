-- The level: its sign and magnitude, before and after clipping, and its byte.
use mathlib.Core.Path.{◌≡◌, refl}
use mathlib.Core.Bool.{Bool, true, false, cond}
use Prim.Native.Nat.{ℕ, zero, suc, ◌+◌, ◌-◌, ◌*◌, ◌≤◌, ◌<◌, min}
use native.Mathlib.Nat.{mul-pos, zero-lt-suc}
use native.Mathlib.Omega.{arith}
use borrow.Author.Tests.{lt-ltb, le-ltb}
use lib.Dec.{ltb, ltb→lt, nltb→le}
use lib.IntN.{ℤ, pos, nat_abs, ◌-ℤ◌, ◌*ℤ◌}
use lib.Ieee.{Float, fin, up, down, lt}
use lib.Ieee.Fits.{up_pos, down_pos}
use Rattle.laws.proofs.Choice.{cond_ind}
use Rattle.laws.proofs.Signed.{abs_neg}
use Rattle.channel.specs.Channel.{clip}
use Rattle.quantiser_level.specs.Level.{plus_zero, quarters, signed, whole, level, is_clipped}
use Rattle.quantiser_level.proofs.Nearest.{nearest_zero, nearest_from, nearest-below, nearest_closest}

abs_signed : (s : Bool) (n : ℕ) → nat_abs (signed s n) ≡ n
abs_signed true n = abs_neg (pos n)
abs_signed false n = refl

clip-signed : (s : Bool) (n : ℕ) → clip (signed s n) ≡ signed s (min 31 n)
clip-signed true zero = refl
clip-signed true (suc n) = refl
clip-signed false n = refl

abs_whole : (p : Float) → nat_abs (whole p) ≡ quarters p
unfolding whole
abs_whole p = abs_signed (lt p plus_zero) (quarters p)

pub level-signed : (p : Float) → level p ≡ signed (lt p plus_zero) (min 31 (quarters p))
unfolding level whole
level-signed p = clip-signed (lt p plus_zero) (quarters p)

-- the count that a clipped value adds
pub one_if : (r : ℕ) (p : Float) → (31 < quarters p → r ≡ 1) → (quarters p ≤ 31 → r ≡ 0) → r ≡ cond (is_clipped p) 1 0
unfolding is_clipped
one_if r p f g = rw abs_whole (cond_ind (λ (x : ℕ). r ≡ x) (ltb 31 (quarters p)) 1 0 (λ t. f (ltb→lt 31 _ t)) (λ t. g (nltb→le 31 _ t)))

pub level_le : (p : Float) → nat_abs (level p) ≤ 31
level_le p = rw (level-signed, abs_signed) (omega arith)

-- ---- a finite p's own sign, −0 giving 0 as +0 does

whole-signed : (s : Bool) (m : ℕ) (e : ℤ) → whole (fin s m e) ≡ signed s (quarters (fin s m e))
unfolding whole quarters lt
whole-signed false m e = rw (le-ltb (m * up e * 1) (0 * 1 * down e) (omega arith))
whole-signed true zero e =
    rw (le-ltb 0 (0 * up e * 1 + 0 * 1 * down e) (omega arith), nearest_zero (4 * (0 * up e)) (down e) (omega (arith, down_pos e)))
whole-signed true (suc m) e = rw (lt-ltb 0 (suc m * up e * 1 + 0 * 1 * down e) (omega (arith, mul-pos (zero-lt-suc m) (up_pos e))))

-- ---- before clipping: n - 1/2 ≤ 4|p| < n + 1/2 for a finite p, both sides times 2 · down e

module _ (s : Bool) (m : ℕ) (e : ℤ) where
  -- 4|p| times down e
  abbrev four : ℕ
  four = 4 * (m * up e)

  pub quarters_from : (2 * quarters (fin s m e) - 1) * down e ≤ 2 * four
  unfolding quarters
  quarters_from = nearest_from four (down e)

  pub quarters-below : 2 * four < (2 * quarters (fin s m e) + 1) * down e
  unfolding quarters
  quarters-below = nearest-below four (down e) (down_pos e)

  -- no whole number is nearer to 4p
  pub whole_closest : (z : ℤ) → nat_abs (signed s four -ℤ whole (fin s m e) *ℤ pos (down e)) ≤ nat_abs (signed s four -ℤ z *ℤ pos (down e))
  unfolding quarters
  whole_closest z = rw whole-signed (nearest_closest four (down e) (down_pos e) s z)
