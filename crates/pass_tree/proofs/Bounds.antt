-- The nodes that a pass works on: they have the values that it counts and its leaf values, at layer s each has 2^s values, each
-- of magnitude at most 31 · 2^(n − s).
use mathlib.Core.Path.{◌≡◌, refl, sym, ap, ap₂, ◌∙◌, subst}
use mathlib.Core.Bool.{Bool, cond}
use mathlib.Core.Logic.{⊎_elim}
use mathlib.Core.List.Memᴰ
use mathlib.Core.List.{List, [], ◌∷◌, ◌++◌, Memᴰ}
use Prim.Native.Nat.{ℕ, zero, suc, ◌+◌, ◌-◌, ◌*◌, ◌^◌, ◌<◌, ◌≤◌}
use native.Mathlib.Nat.{two-pow-succ}
use native.Mathlib.Omega.{arith}
use borrow.Author.Tests.{le-leb, lt-leb}
use lib.IntN.{ℤ, pos}
use lib.ListN.{length, get_or, take, drop, length-take, length-drop}
use lib.Pow.{pow_pos}
use Rattle.laws.proofs.Indices.{lt_cases}
use Rattle.values.specs.Values.{Rule, right_values}
use Rattle.values.specs.Claims.{Within}
use Rattle.values.proofs.Lengths.{length-right}
use Rattle.values.proofs.Bounds.{within-right, within_more}
use Rattle.pass_tree.specs.Node.{Out, forced, leaf, node}
use Rattle.pass_tree.specs.Claims.{most, worked, values_in, leaves_in, WorksOn}
use Rattle.pass_tree.proofs.Node.{left_of, left, halves}
use Rattle.pass_tree.proofs.Steps.{length-left_of}
use Rattle.pass_tree.proofs.Leaves.{within-left_of}

-- one layer down, twice the magnitude
pub most-below : (n s : ℕ) → suc s ≤ n → most n s ≡ most n (suc s) + most n (suc s)
most-below n s l =
    let e : n - s ≡ suc (n - suc s) = omega arith in
    ap (λ (k : ℕ). 31 * 2 ^ k) e ∙ omega (arith, two-pow-succ (n - suc s))

abbrev Nodes : Type 0
Nodes = List (ℕ × List ℤ)

values-append : (xs ys : Nodes) → values_in (xs ++ ys) ≡ values_in xs + values_in ys
values-append [] ys = omega arith
values-append ((s, w) ∷ xs) ys = omega (arith, values-append xs ys)

leaves-append : (xs ys : Nodes) → leaves_in (xs ++ ys) ≡ leaves_in xs ++ leaves_in ys
leaves-append [] ys = refl
leaves-append ((zero, w) ∷ xs) ys = ap (λ (l : List ℤ). get_or w 0 (pos 0) ∷ l) (leaves-append xs ys)
leaves-append ((suc s, w) ∷ xs) ys = leaves-append xs ys

-- the nodes that the halves of a node at layer s + 1 work on, with h = 2^s
module _ (s : ℕ) (p : List ℕ) (rule : ℕ → Rule) (v : List ℤ) where
  abbrev h : ℕ
  h = 2 ^ s

  abbrev left_worked : Nodes
  left_worked = worked s (take h p) rule (left_of h p v)

  abbrev right_worked : Nodes
  right_worked = worked s (drop h p) (λ i. rule (h + i)) (right_values h v (left s h p rule v).sums)

  abbrev both_worked : Nodes
  both_worked = (suc s, v) ∷ (left_worked ++ right_worked)

  -- what holds of each case holds of the node and of what it works on
  worked_cases : (P : Out → Nodes → Type 0) → (2 ^ suc s ≤ length p → P (forced (suc s) p) []) → (length p < 2 ^ suc s → P (halves s h p rule v) both_worked) → P (node (suc s) p rule v) (worked (suc s) p rule v)
  unfolding node worked
  worked_cases P a b =
      let both : Bool → Type 0 = λ t. P (cond t (forced (suc s) p) (halves s h p rule v)) (cond t [] both_worked) in
      lt_cases (length p) (2 ^ suc s) (λ l. subst both (sym (lt-leb _ _ l)) (b l)) (λ l. subst both (sym (le-leb _ _ l)) (a l))

module _ (p : List ℕ) (rule : ℕ → Rule) (v : List ℤ) where
  worked_leaf_cases : (P : Out → Nodes → Type 0) → (1 ≤ length p → P (forced 0 p) []) → (length p < 1 → P (leaf (rule 0) (get_or v 0 (pos 0))) ((0, v) ∷ [])) → P (node 0 p rule v) (worked 0 p rule v)
  unfolding node worked
  worked_leaf_cases P a b =
      let both : Bool → Type 0 = λ t. P (cond t (forced 0 p) (leaf (rule 0) (get_or v 0 (pos 0)))) (cond t [] ((0, v) ∷ [])) in
      lt_cases (length p) 1 (λ l. subst both (sym (lt-leb _ _ l)) (b l)) (λ l. subst both (sym (le-leb _ _ l)) (a l))

-- one value for each step, beside the node's own: it has none if all its bits are forced
worked-values : (s : ℕ) (p : List ℕ) (rule : ℕ → Rule) (v : List ℤ) → (2 ^ s ≤ length p → length v ≡ 0) → values_in (worked s p rule v) ≡ length v + (node s p rule v).work.steps
worked-values zero p rule v none = worked_leaf_cases p rule v (λ o ws. values_in ws ≡ length v + o.work.steps) (λ f. omega (arith, none f)) (λ f. omega arith)
worked-values (suc s) p rule v none =
    worked_cases s p rule v (λ o ws. values_in ws ≡ length v + o.work.steps) (λ f. omega (arith, none f))
    (λ f.
    let h : ℕ = 2 ^ s in
    let a = worked-values s (take h p) rule (left_of h p v) (λ l. length-left_of h p v ∙ ap (λ (t : Bool). cond t 0 h) (le-leb h (length p) (omega (arith, length-take h p)))) in
    let b = worked-values s (drop h p) (λ i. rule (h + i)) (right_values h v (left s h p rule v).sums) (λ l. absurd (omega (arith, length-drop h p, two-pow-succ s, pow_pos s))) in
    omega (arith, a, b, values-append (left_worked s p rule v) (right_worked s p rule v)))

-- at the leaves the leaf values
worked-leaves : (s : ℕ) (p : List ℕ) (rule : ℕ → Rule) (v : List ℤ) → leaves_in (worked s p rule v) ≡ (node s p rule v).leaves
worked-leaves zero p rule v = worked_leaf_cases p rule v (λ o ws. leaves_in ws ≡ o.leaves) (λ f. refl) (λ f. refl)
worked-leaves (suc s) p rule v =
    worked_cases s p rule v (λ o ws. leaves_in ws ≡ o.leaves) (λ f. refl)
    (λ f. leaves-append (left_worked s p rule v) (right_worked s p rule v) ∙ ap₂ ◌++◌ (worked-leaves s _ rule _) (worked-leaves s _ _ _))

-- each has 2^s values at layer s, within its layer's bound
module _ (n : ℕ) where
  abbrev OfLayer : ℕ × List ℤ → Type 0
  OfLayer x = (length x.1 ≡ 2 ^ x.0) × Within (most n x.0) x.1

  abbrev Each : Nodes → Type 0
  Each ws = (x : ℕ × List ℤ) → Memᴰ x ws → OfLayer x

  each_none : Each []
  each_none x m = absurd (Memᴰ.not-nil m)

  each_first : {y : ℕ × List ℤ} {ws : Nodes} → OfLayer y → Each ws → Each (y ∷ ws)
  each_first p q x m = ⊎_elim (λ e. subst OfLayer (sym e) p) (q x) (Memᴰ.cases_cons m)

  worked-each : (s : ℕ) (p : List ℕ) (rule : ℕ → Rule) (v : List ℤ) → s ≤ n → (length p < 2 ^ s → length v ≡ 2 ^ s) → Within (most n s) v → Each (worked s p rule v)
  worked-each zero p rule v l z w = worked_leaf_cases p rule v (λ o ws. Each ws) (λ f. each_none) (λ f. each_first (z f, w) each_none)
  worked-each (suc s) p rule v l z w =
      let h : ℕ = 2 ^ s in
      let sums : List ℕ = (left s h p rule v).sums in
      let two = most-below n s l in
      let a = worked-each s (take h p) rule (left_of h p v) (omega arith) (λ f. length-left_of h p v ∙ ap (λ (t : Bool). cond t 0 h) (lt-leb h (length p) (omega (arith, length-take h p)))) (within-left_of h p (within_more (omega arith) w)) in
      let b = worked-each s (drop h p) (λ i. rule (h + i)) (right_values h v sums) (omega arith) (λ f. length-right h v sums) (within_more (omega arith) (within-right h sums w)) in
      worked_cases s p rule v (λ o ws. Each ws) (λ f. each_none)
      (λ f. each_first (z f, w) (λ x m. ⊎_elim (a x) (b x) (Memᴰ.append_cases (left_worked s p rule v) m)))

-- a pass on channel values that leaves some bit to decide
pub pass-magnitudes : (n : ℕ) (p : List ℕ) (rule : ℕ → Rule) (v : List ℤ) → length v ≡ 2 ^ n → length p < 2 ^ n → Within 31 v → WorksOn n v (node n p rule v) (worked n p rule v)
pass-magnitudes n p rule v z l w =
    let each = worked-each n n p rule v (omega arith) (λ f. z) (within_more (omega (arith, pow_pos (n - n))) w) in
    record {
      values = worked-values n p rule v (λ f. absurd (omega arith));
      leaves = worked-leaves n p rule v;
      sizes = λ x m. (each x m).0;
      bounded = λ x m. (each x m).1;
    }
