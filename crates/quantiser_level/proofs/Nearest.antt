-- The whole number nearest to a fraction a / d.
use mathlib.Core.Path.{◌≡◌, refl, sym, ap, ◌∙◌}
use mathlib.Core.Bool.{Bool, true, false}
use Prim.Native.Nat.{ℕ, zero, suc, ◌+◌, ◌-◌, ◌*◌, ◌≤◌, ◌<◌}
use native.Mathlib.Nat.{div-mul-le_self, lt-div-mul-add, le-div_iff_mul-le, div-eq_of_lt, le_refl, mul_assoc, mul_comm, mul_left_comm, mul-le-mul_right, add-mul, suc-mul, one-mul, zero-mul}
use native.Mathlib.Omega.{arith}
use borrow.Author.Tests.{ltb-true, ltb-false}
use lib.Dec.{ltb, ltb→lt, nltb→le}
use lib.IntN.{ℤ, pos, negsuc, neg_ℤ, nat_abs, ◌+ℤ◌, ◌-ℤ◌, ◌*ℤ◌, neg_ℤ-neg_ℤ, neg_ℤ-+ℤ}
use lib.Ieee.Nearest.{div_same}
use Rattle.laws.proofs.Choice.{cond_ind}
use Rattle.laws.proofs.Signed.{abs_neg}
use Rattle.quantiser_level.specs.Level.{nearest, signed}

-- equal fractions
pub nearest-same : (a d b e : ℕ) → 0 < d → 0 < e → a * e ≡ b * d → nearest a d ≡ nearest b e
nearest-same a d b e D E h = div_same (2 * a + d) (2 * d) (2 * b + e) (2 * e) (omega arith) (omega arith) cross
  where
    cross : (2 * a + d) * (2 * e) ≡ (2 * b + e) * (2 * d)
    cross = simp (add-mul, mul_assoc, mul_left_comm) (omega (arith, mul_comm d e))

-- below one half, and at n or above
pub nearest_zero : (a d : ℕ) → 2 * a < d → nearest a d ≡ 0
nearest_zero a d h = div-eq_of_lt (omega arith)

pub nearest_least : (n a d : ℕ) → 0 < d → n * d ≤ a → n ≤ nearest a d
nearest_least n a d D h = (le-div_iff_mul-le {k = 2 * d} (omega arith)).1 (omega (arith, mul_left_comm n 2 d))

-- n - 1/2 ≤ a / d < n + 1/2, both sides times 2d
module _ (a d : ℕ) where
  halves_from : nearest a d * (2 * d) ≤ 2 * a + d
  halves_from = div-mul-le_self (2 * a + d) (2 * d)

  halves-below : 0 < d → 2 * a + d < nearest a d * (2 * d) + 2 * d
  halves-below D = lt-div-mul-add (omega arith)

odd_times : (n d : ℕ) → (2 * n + 1) * d ≡ n * (2 * d) + d
odd_times n d = simp (add-mul, mul_assoc, one-mul, mul_left_comm)

pub nearest_from : (a d : ℕ) → (2 * nearest a d - 1) * d ≤ 2 * a
nearest_from a d = by (nearest a d) (halves_from a d)
  where
    by : (n : ℕ) → n * (2 * d) ≤ 2 * a + d → (2 * n - 1) * d ≤ 2 * a
    by zero h = omega arith
    by (suc n) h =
        let e : 2 * suc n - 1 ≡ 2 * n + 1 = omega arith in
        rw e (omega (arith, odd_times n d, suc-mul n (2 * d)))

pub nearest-below : (a d : ℕ) → 0 < d → 2 * a < (2 * nearest a d + 1) * d
nearest-below a d D = omega (arith, odd_times (nearest a d) d, halves-below a d D)

-- ---- no whole number z is nearer: first if z is not negative

gap : (a d k : ℕ) → 0 < d → (nearest a d * d - a) + (a - nearest a d * d) ≤ (k * d - a) + (a - k * d)
gap a d k D = by (ltb k n) (ltb n k) refl refl
  where
    n : ℕ
    n = nearest a d

    twice : n * (2 * d) ≡ 2 * (n * d)
    twice = mul_left_comm n 2 d

    by : (s t : Bool) → ltb k n ≡ s → ltb n k ≡ t → (n * d - a) + (a - n * d) ≤ (k * d - a) + (a - k * d)
    by true t e f = omega (arith, twice, halves_from a d, mul-le-mul_right d (ltb-true k n e), suc-mul k d)
    by false true e f = omega (arith, twice, halves-below a d D, mul-le-mul_right d (ltb-true n k f), suc-mul n d)
    by false false e f =
        let same : k ≡ n = omega (arith, ltb-false k n e, ltb-false n k f) in
        rw same (le_refl _)

abs_less : (a b : ℕ) → nat_abs (pos a -ℤ pos b) ≡ (b - a) + (a - b)
abs_less a zero = omega arith
abs_less a (suc b) =
    cond_ind (λ (z : ℤ). nat_abs z ≡ (suc b - a) + (a - suc b)) (ltb a (suc b)) (negsuc (suc b - suc a)) (pos (a - suc b))
    (λ t. omega (arith, ltb→lt a (suc b) t)) (λ t. omega (arith, nltb→le a (suc b) t))

module _ (a d : ℕ) (D : 0 < d) where
  closest_above : (z : ℤ) → nat_abs (pos a -ℤ pos (nearest a d) *ℤ pos d) ≤ nat_abs (pos a -ℤ z *ℤ pos d)
  closest_above (pos k) = rw (abs_less a (nearest a d * d), abs_less) (gap a d k D)
  closest_above (negsuc k) = rw (abs_less, neg_ℤ-neg_ℤ) (omega (arith, gap a d 0 D, zero-mul d))

  -- then by mirroring
  neg_times : (z : ℤ) → neg_ℤ (z *ℤ pos d) ≡ neg_ℤ z *ℤ pos d
  neg_times (pos zero) = rw zero-mul
  neg_times (pos (suc k)) = refl
  neg_times (negsuc k) = neg_ℤ-neg_ℤ (pos (suc k * d))

  mirror : (z : ℤ) → nat_abs (neg_ℤ (pos a) -ℤ z *ℤ pos d) ≡ nat_abs (pos a -ℤ neg_ℤ z *ℤ pos d)
  mirror z =
      ap nat_abs (sym (neg_ℤ-+ℤ (pos a) (z *ℤ pos d))) ∙ abs_neg (pos a +ℤ z *ℤ pos d)
      ∙ ap (λ (w : ℤ). nat_abs (pos a +ℤ w)) (sym (ap neg_ℤ (sym (neg_times z)) ∙ neg_ℤ-neg_ℤ (z *ℤ pos d)))

  pub nearest_closest : (s : Bool) (z : ℤ) → nat_abs (signed s a -ℤ signed s (nearest a d) *ℤ pos d) ≤ nat_abs (signed s a -ℤ z *ℤ pos d)
  nearest_closest false z = closest_above z
  nearest_closest true z = rw (mirror (neg_ℤ (pos (nearest a d))), mirror z, neg_ℤ-neg_ℤ) (closest_above (neg_ℤ z))
