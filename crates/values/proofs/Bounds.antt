-- Magnitudes: left values are no larger than the node's own, right values at most twice as large.
use mathlib.Core.Path.{◌≡◌, refl}
use mathlib.Core.Bool.{Bool, true, false, cond}
use Prim.Native.Nat.{ℕ, min, ◌+◌, ◌^◌, ◌<◌, ◌≤◌, zero, suc}
use lib.Dec.{eqb}
use lib.IntN.{ℤ, pos, neg_ℤ, nat_abs, ◌+ℤ◌, ◌-ℤ◌}
use native.Mathlib.Omega.{arith}
use lib.ListN.{get_or}
use mathlib.Core.List.{List}
use mir.Syntax.{w32}
use Rattle.laws.specs.Table.{table}
use Rattle.laws.proofs.Signed.{abs_neg, abs_add, abs_minus, back, back-small}
use Rattle.values.specs.Values.{f, hard, g, left_values, right_values}
use Rattle.values.specs.Claims.{Within}

pub abs_f : (a b : ℤ) → nat_abs (f a b) ≡ min (nat_abs a) (nat_abs b)
unfolding f
abs_f a b = signed (eqb (hard a) (hard b)) (min (nat_abs a) (nat_abs b))
  where
    signed : (t : Bool) (m : ℕ) → nat_abs (cond t (pos m) (neg_ℤ (pos m))) ≡ m
    signed true m = refl
    signed false m = abs_neg (pos m)

pub abs_g : (a b : ℤ) (sum : ℕ) → nat_abs (g a b sum) ≤ nat_abs a + nat_abs b
unfolding g
abs_g a b sum = chosen (eqb sum 0)
  where
    chosen : (t : Bool) → nat_abs (cond t (a +ℤ b) (b -ℤ a)) ≤ nat_abs a + nat_abs b
    chosen true = abs_add a b
    chosen false = omega (arith, abs_minus b a)

within-table : (m : ℕ) (x : ℕ → ℤ) (n : ℕ) → ((k : ℕ) → nat_abs (x k) ≤ m) → Within m (table x n)
unfolding table
within-table m x n h = record { at = each x n h }
  where
    each : (x : ℕ → ℤ) (n : ℕ) → ((k : ℕ) → nat_abs (x k) ≤ m) → (k : ℕ) → nat_abs (get_or (table x n) k (pos 0)) ≤ m
    each x zero h k = omega arith
    each x (suc n) h zero = h 0
    each x (suc n) h (suc k) = each (λ j. x (suc j)) n (λ j. h (suc j)) k

pub within-left : {m : ℕ} (h : ℕ) {v : List ℤ} → Within m v → Within m (left_values h v)
unfolding left_values
within-left h {v} p = within-table _ _ h (λ j. omega (arith, abs_f (get_or v j (pos 0)) (get_or v (h + j) (pos 0)), p.at j))

pub within-right : {m : ℕ} (h : ℕ) {v : List ℤ} (sums : List ℕ) → Within m v → Within (m + m) (right_values h v sums)
unfolding right_values
within-right h {v} sums p =
    within-table _ _ h (λ j. omega (arith, abs_g (get_or v j (pos 0)) (get_or v (h + j) (pos 0)) (get_or sums j 0), p.at j, p.at (h + j)))

pub within_more : {m n : ℕ} {xs : List ℤ} → m ≤ n → Within m xs → Within n xs
within_more l p = record { at = λ k. omega (arith, p.at k) }

-- a small value, as the machine reads it back
pub back-within : {m : ℕ} {v : List ℤ} → Within m v → m < 2 ^ 31 → (k : ℕ) → back w32 (get_or v k (pos 0)) ≡ get_or v k (pos 0)
back-within {m} {v} p l k = back-small w32 (get_or v k (pos 0)) (omega (arith, p.at k))
