-- Leaf values are small: at layer s each magnitude is at most 2^s times that of the node's own values.
use mathlib.Core.Path.{◌≡◌, ap, ◌∙◌}
use mathlib.Core.Bool.{Bool, true, false, cond}
use mathlib.Core.List.{List, [], ◌∷◌, ◌++◌}
use Prim.Native.Nat.{ℕ, zero, suc, ◌+◌, ◌*◌, ◌^◌, ◌≤◌}
use native.Mathlib.Nat.{two-pow-succ, mul-add, add-mul}
use native.Mathlib.Omega.{arith}
use lib.Dec.{leb}
use lib.IntN.{ℤ, pos, nat_abs}
use lib.ListN.{length, get_or, take, drop}
use Rattle.values.specs.Values.{Rule, right_values, left_values}
use Rattle.values.specs.Claims.{Within}
use Rattle.values.proofs.Bounds.{within_more, within-right, within-left}
use Rattle.pass_tree.specs.Node.{node}
use Rattle.pass_tree.proofs.Node.{left_of, left, right, leaf_cases, node_cases}

within-nil : {m : ℕ} → Within m []
within-nil = record { at = λ k. omega arith }

within-cons : {m : ℕ} {x : ℤ} {xs : List ℤ} → nat_abs x ≤ m → Within m xs → Within m (x ∷ xs)
within-cons {m} {x} {xs} l p = record { at = each }
  where
    each : (k : ℕ) → nat_abs (get_or (x ∷ xs) k (pos 0)) ≤ m
    each zero = l
    each (suc k) = p.at k

within-append : {m : ℕ} (xs ys : List ℤ) → Within m xs → Within m ys → Within m (xs ++ ys)
within-append [] ys p q = q
within-append (x ∷ xs) ys p q = within-cons (p.at 0) (within-append xs ys (record { at = λ k. p.at (suc k) }) q)

pub within-left_of : {m : ℕ} (h : ℕ) (p : List ℕ) {v : List ℤ} → Within m v → Within m (left_of h p v)
within-left_of {m} h p {v} w = chosen (leb h (length p))
  where
    chosen : (t : Bool) → Within m (cond t [] (left_values h v))
    chosen true = within-nil
    chosen false = within-left h w

pub within-leaves : (s m : ℕ) (p : List ℕ) (rule : ℕ → Rule) (v : List ℤ) → Within m v → Within (m * 2 ^ s) (node s p rule v).leaves
within-leaves zero m p rule v w =
    leaf_cases (λ o. Within (m * 1) o.leaves) 0 p rule v (λ f. within-nil) (λ f. within-cons (omega (arith, w.at 0)) within-nil)
within-leaves (suc s) m p rule v w =
    let h : ℕ = 2 ^ s in
    let two : m * 2 ^ suc s ≡ m * h + m * h = ap (λ (k : ℕ). m * k) (two-pow-succ s) ∙ mul-add m h h in
    let twice : (m + m) * h ≡ m * h + m * h = add-mul m m h in
    let l = left s h p rule v in
    let front = within-leaves s m (take h p) rule (left_of h p v) (within-left_of h p w) in
    let back = within-leaves s (m + m) (drop h p) (λ i. rule (h + i)) (right_values h v l.sums) (within-right h l.sums w) in
    node_cases (λ o. Within (m * 2 ^ suc s) o.leaves) s p rule v (λ f. within-nil)
    (λ f. within-append l.leaves (right s h p rule v).leaves (within_more (omega arith) front) (within_more (omega arith) back))
