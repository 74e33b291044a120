-- Signed operations at any width, said of the numbers in ℤ and not of their bits.
use mathlib.Core.Path.{◌≡◌, refl, sym, subst}
use Prim.Native.Nat.{ℕ, zero, suc, ◌+◌, ◌-◌, ◌^◌, ◌≤◌, ◌<◌}
use native.Mathlib.Omega.{arith}
use lib.Dec.{T, ltb, ltb→lt}
use lib.IntN.{ℤ, pos, negsuc, neg_ℤ, nat_abs, sub_ℕ, ◌+ℤ◌, ◌-ℤ◌}
use lib.Signed.{mag, non_neg}
use mir.Syntax.{Width}
use mir.Val.{SFits, Fits, to_z, of_z, hbits}
use mir.ValLaws.{to_z-of_z}
use Rattle.laws.proofs.Choice.{cond_ind}

-- ---- magnitudes

mag_le : (z : ℤ) → mag z ≤ nat_abs z
mag_le (pos n) = omega arith
mag_le (negsuc n) = omega arith

pub abs_neg : (z : ℤ) → nat_abs (neg_ℤ z) ≡ nat_abs z
abs_neg (pos zero) = refl
abs_neg (pos (suc n)) = refl
abs_neg (negsuc n) = refl

abs_sub : (a b : ℕ) → nat_abs (sub_ℕ a b) ≤ a + b
abs_sub a b =
    cond_ind (λ (z : ℤ). nat_abs z ≤ a + b) (ltb a b) (negsuc (b - suc a)) (pos (a - b))
    (λ t. omega (arith, ltb→lt a b t)) (λ t. omega arith)

pub abs_add : (a b : ℤ) → nat_abs (a +ℤ b) ≤ nat_abs a + nat_abs b
abs_add (pos a) (pos b) = omega arith
abs_add (pos a) (negsuc b) = abs_sub a (suc b)
abs_add (negsuc a) (pos b) = omega (arith, abs_sub b (suc a))
abs_add (negsuc a) (negsuc b) = omega arith

pub abs_minus : (a b : ℤ) → nat_abs (a -ℤ b) ≤ nat_abs a + nat_abs b
abs_minus a b = omega (arith, abs_add a (neg_ℤ b), abs_neg b)

-- ---- at a width

module _ (w : Width) where
  -- what the machine reads back from the bits of z
  abbrev pub back : ℤ → ℤ
  back z = to_z w (of_z w z)

  pub sfits : (z : ℤ) → nat_abs z < 2 ^ hbits w → SFits w z
  sfits z h = record { sfits = omega (arith, mag_le z) }

  pub back_is : (z : ℤ) → SFits w z → back z ≡ z
  back_is z h = to_z-of_z w z h

  pub back-small : (z : ℤ) → nat_abs z < 2 ^ hbits w → back z ≡ z
  back-small z h = to_z-of_z w z (sfits z h)

-- a cast to an unsigned width of what is a natural number
pub cast_nat : (w : Width) (z : ℤ) (n : ℕ) → z ≡ pos n → Fits w n → T (non_neg z) × Fits w (nat_abs z)
cast_nat w z n e h = subst (λ (y : ℤ). T (non_neg y) × Fits w (nat_abs y)) (sym e) (tt, h)
