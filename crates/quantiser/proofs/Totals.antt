-- The clipped count and the peak of the products.
use mathlib.Core.Path.{◌≡◌, refl, sym}
use mathlib.Core.Logic.{inl, inr}
use mathlib.Core.Bool.{Bool, true, false, not, cond, true≢false}
use Prim.Native.Nat.{ℕ, zero, suc, ◌+◌, ◌*◌, ◌≤◌, ◌<◌, zero-le}
use native.Mathlib.Nat.{le_refl, le_of_lt, le_of_suc-le-suc, not-suc-le-zero, eq-or-lt_of_le}
use native.Mathlib.Omega.{arith}
use borrow.Author.Tests.{ltb-true, ltb-false, le-ltb}
use lib.Dec.{T}
use lib.IntN.{ℤ, pos}
use lib.Ieee.{Float, nan, inf, fin, up, down, lt, is_nan}
use lib.Ieee.Fits.{down_pos}
use lib.Ieee.Positive.{through}
use Rattle.laws.proofs.Choice.{cond_ind}
use Rattle.quantiser_level.specs.Level.{plus_zero, magnitude, is_clipped}
use Rattle.quantiser.specs.Quantise.{larger, peak_of, clipped_of}
use Rattle.quantiser.specs.Claims.{Under}

-- at most one for each product
pub clipped_le : (p : ℕ → Float) (n : ℕ) → clipped_of p n ≤ n
unfolding clipped_of
clipped_le p zero = zero-le
clipped_le p (suc n) =
    cond_ind (λ (k : ℕ). clipped_of p n + k ≤ suc n) (is_clipped (p n)) 1 0 (λ t. omega (arith, clipped_le p n)) (λ t. omega (arith, clipped_le p n))

-- ---- magnitudes: an infinity or a finite value, with the sign clear

data Magnitude : Float → Type 0 where
  infinite : Magnitude (inf false)
  finite : (m : ℕ) (e : ℤ) → Magnitude (fin false m e)

magnitude-of : (p : Float) → T (not (is_nan p)) → Magnitude (magnitude p)
unfolding is_nan magnitude
magnitude-of nan n = absurd n
magnitude-of (inf s) n = infinite
magnitude-of (fin s m e) n = finite m e

is_number : {x : Float} → Magnitude x → is_nan x ≡ false
unfolding is_nan
is_number infinite = refl
is_number (finite m e) = refl

under_refl : {x : Float} → Magnitude x → Under x x
unfolding lt
under_refl infinite = refl
under_refl (finite m e) = le-ltb (m * up e * down e) (m * up e * down e) (le_refl (m * up e * down e))

under_trans : {x y z : Float} → Magnitude x → Magnitude y → Magnitude z → Under x y → Under y z → Under x z
unfolding lt
under_trans infinite y infinite p q = refl
under_trans (finite m e) y infinite p q = refl
under_trans infinite infinite (finite o c) p q = q
under_trans infinite (finite n d) (finite o c) p q = p
under_trans (finite m e) infinite (finite o c) p q = absurd (true≢false q)
under_trans (finite m e) (finite n d) (finite o c) p q =
    le-ltb (o * up c * down e) (m * up e * down c)
    (through (m * up e) (n * up d) (o * up c) (down e) (down d) (down c) (down_pos d)
    (ltb-false (n * up d * down e) (m * up e * down d) p) (ltb-false (o * up c * down d) (n * up d * down c) q))

under_less : {x y : Float} → Magnitude x → Magnitude y → lt x y ≡ true → Under x y
unfolding lt
under_less infinite infinite h = refl
under_less infinite (finite n d) h = absurd (true≢false (sym h))
under_less (finite m e) infinite h = refl
under_less (finite m e) (finite n d) h = le-ltb (n * up d * down e) (m * up e * down d) (le_of_lt (ltb-true (m * up e * down d) (n * up d * down e) h))

-- the larger of two is one of them, and neither exceeds it
larger-is : {a b : Float} → Magnitude a → Magnitude b → Magnitude (larger a b) × Under a (larger a b) × Under b (larger a b)
unfolding larger
larger-is {a} {b} A B = by (lt b a) refl
  where
    by : (t : Bool) → lt b a ≡ t → Magnitude (cond t a b) × Under a (cond t a b) × Under b (cond t a b)
    by true h = (A, under_refl A, under_less B A h)
    by false h = (B, h, under_refl B)

not_below_zero : (v : Float) → Under plus_zero (magnitude v)
unfolding lt magnitude
not_below_zero nan = refl
not_below_zero (inf s) = refl
not_below_zero (fin s m e) = le-ltb (m * up e * 1) (0 * 1 * down e) (omega arith)

-- ---- the peak

module _ (p : ℕ → Float) where
  peak_magnitude : (n : ℕ) → ((k : ℕ) → k < n → T (not (is_nan (p k)))) → Magnitude (peak_of p n)
  unfolding peak_of
  peak_magnitude zero N = finite 0 (pos 0)
  peak_magnitude (suc n) N = (larger-is (peak_magnitude n (λ k h. N k (omega arith))) (magnitude-of (p n) (N n (omega arith)))).0

  pub peak_number : (n : ℕ) → ((k : ℕ) → k < n → T (not (is_nan (p k)))) → is_nan (peak_of p n) ≡ false
  peak_number n N = is_number (peak_magnitude n N)

  -- no magnitude exceeds it
  pub peak_above : (n : ℕ) → ((k : ℕ) → k < n → T (not (is_nan (p k)))) → (k : ℕ) → k < n → Under (magnitude (p k)) (peak_of p n)
  unfolding peak_of
  peak_above zero N k h = absurd (not-suc-le-zero h)
  peak_above (suc n) N k h =
      let M = peak_magnitude n (λ k h. N k (omega arith)) in
      let l = larger-is M (magnitude-of (p n) (N n (omega arith))) in
      elim (eq-or-lt_of_le (le_of_suc-le-suc h)) [
        | inl e ↦ rw e l.2
        | inr f ↦ under_trans (magnitude-of (p k) (N k h)) M l.0 (peak_above n (λ k h. N k (omega arith)) k f) l.1
      ]

  -- and it is one of them
  pub peak_reached : (n : ℕ) → 0 < n → (k : ℕ) × (k < n) × (peak_of p n ≡ magnitude (p k))
  unfolding peak_of larger
  peak_reached zero h = absurd (omega arith)
  peak_reached (suc zero) h = (0, h, rw (not_below_zero (p 0)))
  peak_reached (suc (suc n)) h =
      let r = peak_reached (suc n) (omega arith) in
      cond_ind (λ (x : Float). (k : ℕ) × (k < suc (suc n)) × (x ≡ magnitude (p k))) (lt (magnitude (p (suc n))) (peak_of p (suc n)))
      (peak_of p (suc n)) (magnitude (p (suc n))) (λ t. (r.0, omega (arith, r.1), r.2)) (λ t. (suc n, omega arith, refl))
