-- Values with the right sign, and not zero: f and g keep them so.
use mathlib.Core.Path.{◌≡◌, refl, ap₂, ◌∙◌, subst}
use Prim.Native.Nat.{ℕ, zero, suc, ◌+◌, ◌%◌, ◌<◌, min}
use native.Mathlib.Omega.{arith}
use lib.IntN.{ℤ, pos, negsuc, neg_ℤ, nat_abs}
use Rattle.laws.proofs.Signed.{abs_neg}
use Rattle.values.specs.Values.{g, f, hard}

-- the value z has the sign of the bit x, and is not zero
pub record Favours (x : ℕ) (z : ℤ) : Type 0 where
  pub sign : hard z ≡ x
  pub some : 0 < nat_abs z

hard_neg : (m : ℕ) → 0 < m → hard (neg_ℤ (pos m)) ≡ 1
hard_neg zero l = absurd (omega arith)
hard_neg (suc m) l = refl

-- f: the exclusive-or of the signs
f_sign : (a b : ℤ) → 0 < nat_abs a → 0 < nat_abs b → hard (f a b) ≡ (hard a + hard b) % 2
unfolding f
f_sign (pos a) (pos b) l m = refl
f_sign (pos a) (negsuc b) l m = hard_neg (min a (suc b)) (omega arith)
f_sign (negsuc a) (pos b) l m = hard_neg (min (suc a) b) (omega arith)
f_sign (negsuc a) (negsuc b) l m = refl

f_some : (a b : ℤ) → 0 < nat_abs a → 0 < nat_abs b → 0 < nat_abs (f a b)
unfolding f
f_some (pos a) (pos b) l m = omega arith
f_some (pos a) (negsuc b) l m = omega (arith, abs_neg (pos (min a (suc b))))
f_some (negsuc a) (pos b) l m = omega (arith, abs_neg (pos (min (suc a) b)))
f_some (negsuc a) (negsuc b) l m = omega arith

pub f_favours : {x y : ℕ} {a b : ℤ} → Favours x a → Favours y b → Favours ((x + y) % 2) (f a b)
f_favours {x} {y} {a} {b} p q = record {
  sign = f_sign a b p.some q.some ∙ ap₂ (λ (m n : ℕ). (m + n) % 2) p.sign q.sign;
  some = f_some a b p.some q.some;
}

-- g: with the right sum bit both addends have the sign of the second value
g-same : (a b : ℤ) → 0 < nat_abs a → hard a ≡ hard b → Favours (hard b) (g a b 0)
unfolding g
g-same (pos a) (pos b) l e = record { sign = refl; some = omega arith }
g-same (pos a) (negsuc b) l e = absurd (omega arith)
g-same (negsuc a) (pos b) l e = absurd (omega arith)
g-same (negsuc a) (negsuc b) l e = record { sign = refl; some = omega arith }

g_other : (a b : ℤ) → 0 < nat_abs a → (hard a ≡ hard b → ⊥) → Favours (hard b) (g a b 1)
unfolding g
g_other (pos zero) b l e = absurd (omega arith)
g_other (pos (suc a)) (pos b) l e = absurd (e refl)
g_other (pos (suc a)) (negsuc b) l e = record { sign = refl; some = omega arith }
g_other (negsuc a) (pos b) l e = record { sign = refl; some = omega arith }
g_other (negsuc a) (negsuc b) l e = absurd (e refl)

pub g_favours : (c : ℕ) {y : ℕ} {a b : ℤ} → c < 2 → y < 2 → Favours ((c + y) % 2) a → Favours y b → Favours y (g a b c)
g_favours zero {y} {a} {b} l m p q = subst (λ (x : ℕ). Favours x (g a b 0)) q.sign (g-same a b p.some (omega (arith, p.sign, q.sign)))
g_favours (suc zero) {y} {a} {b} l m p q = subst (λ (x : ℕ). Favours x (g a b 1)) q.sign (g_other a b p.some (λ e. omega (arith, p.sign, q.sign)))
g_favours (suc (suc c)) l m p q = absurd (omega arith)
