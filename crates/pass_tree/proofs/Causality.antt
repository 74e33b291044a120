-- Bits before an index depend on the rules before it alone, and so does the leaf value at the index.
use mathlib.Core.Path.{◌≡◌, sym, ap₂, ◌∙◌}
use mathlib.Core.List.{List}
use Prim.Native.Nat.{ℕ, ◌+◌, ◌^◌, ◌<◌, ◌≤◌}
use native.Mathlib.Omega.{arith}
use lib.IntN.{ℤ, pos}
use lib.ListN.{length, get_or, take}
use Rattle.laws.proofs.Indices.{lt_cases, take-agree}
use Rattle.values.specs.Values.{decided, Rule}
use Rattle.pass_tree.specs.Node.{node}
use Rattle.pass_tree.proofs.Node.{Short, length-bits}
use Rattle.pass_tree.proofs.Decisions.{leaf_value, leaf-before, decision}

-- two passes over the same values that have the same bits before index i
module _ (s : ℕ) (p p' : List ℕ) (rule rule' : ℕ → Rule) (v : List ℤ) (short : Short s p) (short' : Short s p') (i : ℕ) (l : i < 2 ^ s)
    (e : take i (node s p rule v).bits ≡ take i (node s p' rule' v).bits) where
  same : leaf_value s v (node s p rule v).bits i ≡ leaf_value s v (node s p' rule' v).bits i
  same = leaf-before s v (node s p rule v).bits (node s p' rule' v).bits i l e

  -- their leaf values at i are equal, if both decide i
  pub same-leaf : (k k' : ℕ) → length p + k ≡ i → length p' + k' ≡ i → get_or (node s p rule v).leaves k (pos 0) ≡ get_or (node s p' rule' v).leaves k' (pos 0)
  same-leaf k k' c c' = (decision s p rule v short i l).value k c ∙ same ∙ sym ((decision s p' rule' v short' i l).value k' c')

  -- their bits at i are equal, if both decide it by equal rules
  pub same_bit : length p ≤ i → length p' ≤ i → rule i ≡ rule' i → get_or (node s p rule v).bits i 0 ≡ get_or (node s p' rule' v).bits i 0
  same_bit c c' r = (decision s p rule v short i l).decides c ∙ ap₂ decided r same ∙ sym ((decision s p' rule' v short' i l).decides c')

-- two passes whose rules agree before index i
module _ (s : ℕ) (p : List ℕ) (rule rule' : ℕ → Rule) (v : List ℤ) (short : Short s p) (i : ℕ) (agree : (j : ℕ) → length p ≤ j → j < i → rule j ≡ rule' j) where
  pub bits-before : i ≤ 2 ^ s → take i (node s p rule v).bits ≡ take i (node s p rule' v).bits
  bits-before l =
      take-agree (node s p rule v).bits (node s p rule' v).bits 0 i (omega (arith, length-bits s p rule v short)) (omega (arith, length-bits s p rule' v short))
      (λ j m e.
      let k : j < 2 ^ s = omega arith in
      lt_cases j (length p) (λ c. (decision s p rule v short j k).given c ∙ sym ((decision s p rule' v short j k).given c))
      (λ c. same_bit s p p rule rule' v short short j k e c c (agree j c m)))

  -- the leaf value at i
  pub leaf-at : (k : ℕ) → length p + k ≡ i → i < 2 ^ s → get_or (node s p rule v).leaves k (pos 0) ≡ get_or (node s p rule' v).leaves k (pos 0)
  leaf-at k c l = same-leaf s p p rule rule' v short short i l (bits-before (omega arith)) k k c c
