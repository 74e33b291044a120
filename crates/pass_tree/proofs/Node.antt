-- A node by its cases: forced, a leaf, or two halves; and the lengths of its results.
use mathlib.Core.Path.{◌≡◌, refl, sym, ap, subst}
use mathlib.Core.Bool.{Bool, true, false, cond}
use mathlib.Core.List.{List, []}
use Prim.Native.Nat.{ℕ, zero, suc, ◌+◌, ◌^◌, ◌≤◌, ◌<◌}
use native.Mathlib.Nat.{two-pow-succ}
use native.Mathlib.Omega.{arith}
use borrow.Author.Tests.{le-leb, lt-leb, leb-true, leb-false}
use lib.Dec.{leb}
use lib.IntN.{ℤ, pos}
use lib.ListN.{length, get_or, take, drop, length-append, length-take, length-drop}
use Rattle.transform.specs.Transform.{xors}
use Rattle.transform.proofs.Transformed.{length-transformed}
use Rattle.transform.proofs.Xors.{length-xors}
use Rattle.values.specs.Values.{Rule, right_values, left_values}
use Rattle.pass_tree.specs.Node.{Out, forced, leaf, join, node}

-- the values of the left half that are computed
abbrev pub left_of : ℕ → List ℕ → List ℤ → List ℤ
left_of h p v = cond (leb h (length p)) [] (left_values h v)

-- the two halves of a node at layer s + 1, with h = 2^s
module _ (s h : ℕ) (p : List ℕ) (rule : ℕ → Rule) (v : List ℤ) where
  abbrev pub left : Out
  left = node s (take h p) rule (left_of h p v)

  abbrev pub right : Out
  right = node s (drop h p) (λ i. rule (h + i)) (right_values h v left.sums)

  abbrev pub halves : Out
  halves = join h (left_of h p v) left (right_values h v left.sums) right

pub node-forced : (s : ℕ) (p : List ℕ) (rule : ℕ → Rule) (v : List ℤ) → 2 ^ s ≤ length p → node s p rule v ≡ forced s p
unfolding node
node-forced zero p rule v l = ap (λ (t : Bool). cond t (forced 0 p) (leaf (rule 0) (get_or v 0 (pos 0)))) (le-leb _ _ l)
node-forced (suc s) p rule v l = ap (λ (t : Bool). cond t (forced (suc s) p) (halves s (2 ^ s) p rule v)) (le-leb _ _ l)

pub node-leaf : (p : List ℕ) (rule : ℕ → Rule) (v : List ℤ) → length p < 1 → node 0 p rule v ≡ leaf (rule 0) (get_or v 0 (pos 0))
unfolding node
node-leaf p rule v l = ap (λ (t : Bool). cond t (forced 0 p) (leaf (rule 0) (get_or v 0 (pos 0)))) (lt-leb _ _ l)

pub node-halves : (s : ℕ) (p : List ℕ) (rule : ℕ → Rule) (v : List ℤ) → length p < 2 ^ suc s → node (suc s) p rule v ≡ halves s (2 ^ s) p rule v
unfolding node
node-halves s p rule v l = ap (λ (t : Bool). cond t (forced (suc s) p) (halves s (2 ^ s) p rule v)) (lt-leb _ _ l)

-- what holds of each case holds of the node
module _ (P : Out → Type 0) (s : ℕ) (p : List ℕ) (rule : ℕ → Rule) (v : List ℤ) where
  pub leaf_cases : (1 ≤ length p → P (forced 0 p)) → (length p < 1 → P (leaf (rule 0) (get_or v 0 (pos 0)))) → P (node 0 p rule v)
  leaf_cases a b = go (leb 1 (length p)) refl
    where
      go : (t : Bool) → leb 1 (length p) ≡ t → P (node 0 p rule v)
      go true e = subst P (sym (node-forced 0 p rule v (leb-true _ _ e))) (a (leb-true _ _ e))
      go false e = subst P (sym (node-leaf p rule v (leb-false _ _ e))) (b (leb-false _ _ e))

  pub node_cases : (2 ^ suc s ≤ length p → P (forced (suc s) p)) → (length p < 2 ^ suc s → P (halves s (2 ^ s) p rule v)) → P (node (suc s) p rule v)
  node_cases a b = go (leb (2 ^ suc s) (length p)) refl
    where
      go : (t : Bool) → leb (2 ^ suc s) (length p) ≡ t → P (node (suc s) p rule v)
      go true e = subst P (sym (node-forced (suc s) p rule v (leb-true _ _ e))) (a (leb-true _ _ e))
      go false e = subst P (sym (node-halves s p rule v (leb-false _ _ e))) (b (leb-false _ _ e))

-- a node's prefix is no longer than the node
abbrev pub Short : ℕ → List ℕ → Type 0
Short s p = length p ≤ 2 ^ s

pub short-left : (s : ℕ) (p : List ℕ) → Short s (take (2 ^ s) p)
short-left s p = omega (arith, length-take (2 ^ s) p)

pub short-right : (s : ℕ) (p : List ℕ) → Short (suc s) p → Short s (drop (2 ^ s) p)
short-right s p l = omega (arith, length-drop (2 ^ s) p, two-pow-succ s)

pub length-bits : (s : ℕ) (p : List ℕ) (rule : ℕ → Rule) (v : List ℤ) → Short s p → length (node s p rule v).bits ≡ 2 ^ s
length-bits zero p rule v l = leaf_cases (λ o. length o.bits ≡ 1) 0 p rule v (λ f. omega arith) (λ f. refl)
length-bits (suc s) p rule v l =
    let h : ℕ = 2 ^ s in
    let a = length-bits s (take h p) rule (left_of h p v) (short-left s p) in
    let b = length-bits s (drop h p) (λ i. rule (h + i)) (right_values h v (left s h p rule v).sums) (short-right s p l) in
    node_cases (λ o. length o.bits ≡ 2 ^ suc s) s p rule v (λ f. omega arith)
    (λ f. omega (arith, two-pow-succ s, length-append (left s h p rule v).bits (right s h p rule v).bits))

pub length-sums : (s : ℕ) (p : List ℕ) (rule : ℕ → Rule) (v : List ℤ) → length (node s p rule v).sums ≡ 2 ^ s
length-sums zero p rule v = leaf_cases (λ o. length o.sums ≡ 1) 0 p rule v (λ f. length-transformed 0 p) (λ f. refl)
length-sums (suc s) p rule v =
    let h : ℕ = 2 ^ s in
    let l : List ℕ = (left s h p rule v).sums in
    let r : List ℕ = (right s h p rule v).sums in
    let b = length-sums s (drop h p) (λ i. rule (h + i)) (right_values h v l) in
    node_cases (λ o. length o.sums ≡ 2 ^ suc s) s p rule v (λ f. length-transformed (suc s) p)
    (λ f. omega (arith, two-pow-succ s, length-append (xors h l r) r, length-xors h l r))

-- one leaf value for each index that is decided
pub length-leaves : (s : ℕ) (p : List ℕ) (rule : ℕ → Rule) (v : List ℤ) → Short s p → length p + length (node s p rule v).leaves ≡ 2 ^ s
length-leaves zero p rule v l = leaf_cases (λ o. length p + length o.leaves ≡ 1) 0 p rule v (λ f. omega arith) (λ f. omega arith)
length-leaves (suc s) p rule v l =
    let h : ℕ = 2 ^ s in
    let a = length-leaves s (take h p) rule (left_of h p v) (short-left s p) in
    let b = length-leaves s (drop h p) (λ i. rule (h + i)) (right_values h v (left s h p rule v).sums) (short-right s p l) in
    node_cases (λ o. length p + length o.leaves ≡ 2 ^ suc s) s p rule v (λ f. omega arith)
    (λ f. omega (arith, two-pow-succ s, length-take h p, length-drop h p, length-append (left s h p rule v).leaves (right s h p rule v).leaves))
