-- A node index by index: a forced bit is the prefix's, and any other is decided by its rule from the value at its leaf, which depends on
-- the node's values and the bits before it.
use mathlib.Core.Path.{◌≡◌, refl, sym, ap, ap₂, ◌∙◌}
use mathlib.Core.Bool.{Bool, cond}
use mathlib.Core.List.{List, [], ◌∷◌, ◌++◌}
use Prim.Native.Nat.{ℕ, zero, suc, ◌+◌, ◌-◌, ◌^◌, ◌<◌, ◌≤◌}
use native.Mathlib.Nat.{add-sub_cancel_left}
use native.Mathlib.Omega.{arith}
use borrow.Author.Tests.{lt-ltb, le-ltb, lt-leb}
use lib.Dec.{ltb}
use lib.IntN.{ℤ, pos}
use lib.ListN.{length, get_or, take, drop, length-take, length-drop, get_or-append}
use lib.Seq.{get_or-take, get_or-drop, get_or-append-add, take-take, take_at, drop_at}
use Rattle.laws.proofs.Segment.{drop-take}
use Rattle.laws.proofs.Indices.{by-halves}
use Rattle.transform.specs.Transform.{transformed}
use Rattle.values.specs.Values.{decided, Rule, right_values, left_values}
use Rattle.pass_tree.specs.Node.{Out, forced, leaf, node}
use Rattle.pass_tree.proofs.Node.{left_of, left, right, halves, leaf_cases, node_cases, Short, short-left, short-right, length-bits, length-leaves}
use Rattle.pass_tree.proofs.Sums.{sums-transformed}

-- the value at leaf i of a node with values v and bits b
unfoldable pub leaf_value : ℕ → List ℤ → List ℕ → ℕ → ℤ
leaf_value zero v b i = get_or v 0 (pos 0)
leaf_value (suc s) v b i =
    let h = 2 ^ s in
    let right = right_values h v (transformed s (take h b)) in
    cond (ltb i h) (leaf_value s (left_values h v) (take h b) i) (leaf_value s right (drop h b) (i - h))

leaf-left : (s : ℕ) (v : List ℤ) (b : List ℕ) (i : ℕ) → i < 2 ^ s → leaf_value (suc s) v b i ≡ leaf_value s (left_values (2 ^ s) v) (take (2 ^ s) b) i
unfolding leaf_value
leaf-left s v b i l = rw lt-ltb

leaf-right : (s : ℕ) (v : List ℤ) (b : List ℕ) (i : ℕ) → leaf_value (suc s) v b (2 ^ s + i) ≡ leaf_value s (right_values (2 ^ s) v (transformed s (take (2 ^ s) b))) (drop (2 ^ s) b) i
unfolding leaf_value
leaf-right s v b i = let c : 2 ^ s ≤ 2 ^ s + i = omega arith in rw (le-ltb (2 ^ s + i) (2 ^ s) c, add-sub_cancel_left (2 ^ s) i)

-- it depends on the bits before it alone
pub leaf-before : (s : ℕ) (v : List ℤ) (b b' : List ℕ) (i : ℕ) → i < 2 ^ s → take i b ≡ take i b' → leaf_value s v b i ≡ leaf_value s v b' i
unfolding leaf_value
leaf-before zero v b b' i l e = refl
leaf-before (suc s) v b b' i l e =
    let h : ℕ = 2 ^ s in
    by-halves (λ k. take k b ≡ take k b' → leaf_value (suc s) v b k ≡ leaf_value (suc s) v b' k) s
    (λ k m q.
    let c : k ≤ h = omega arith in
    leaf-left s v b k m
    ∙ leaf-before s (left_values h v) (take h b) (take h b') k m (take-take k h b c ∙ q ∙ sym (take-take k h b' c))
    ∙ sym (leaf-left s v b' k m))
    (λ k m q.
    let c : h ≤ h + k = omega arith in
    let front : take h b ≡ take h b' = sym (take-take h (h + k) b c) ∙ ap (take h) q ∙ take-take h (h + k) b' c in
    let back : take k (drop h b) ≡ take k (drop h b') = sym (drop-take h k b) ∙ ap (drop h) q ∙ drop-take h k b' in
    leaf-right s v b k
    ∙ ap (λ (x : List ℕ). leaf_value s (right_values h v (transformed s x)) (drop h b) k) front
    ∙ leaf-before s (right_values h v (transformed s (take h b'))) (drop h b) (drop h b') k m back
    ∙ sym (leaf-right s v b' k))
    i l e

-- what holds at index i of a node with the result o
pub record Decision (s : ℕ) (p : List ℕ) (rule : ℕ → Rule) (v : List ℤ) (o : Out) (i : ℕ) : Type 0 where
  pub given : i < length p → get_or o.bits i 0 ≡ get_or p i 0
  pub decides : length p ≤ i → get_or o.bits i 0 ≡ decided (rule i) (leaf_value s v o.bits i)
  pub value : (k : ℕ) → length p + k ≡ i → get_or o.leaves k (pos 0) ≡ leaf_value s v o.bits i

all-forced : (s : ℕ) (p : List ℕ) (rule : ℕ → Rule) (v : List ℤ) (i : ℕ) → 2 ^ s ≤ length p → i < 2 ^ s → Decision s p rule v (forced s p) i
all-forced s p rule v i f l = record { given = λ _. refl; decides = λ c. absurd (omega arith); value = λ k e. absurd (omega arith) }

one_leaf : (p : List ℕ) (rule : ℕ → Rule) (v : List ℤ) (i : ℕ) → length p < 1 → i < 1 → Decision 0 p rule v (leaf (rule 0) (get_or v 0 (pos 0))) i
unfolding leaf_value
one_leaf p rule v zero f l = record { given = λ c. absurd (omega arith); decides = λ c. refl; value = only }
  where
    only : (k : ℕ) → length p + k ≡ 0 → get_or (get_or v 0 (pos 0) ∷ []) k (pos 0) ≡ get_or v 0 (pos 0)
    only zero e = refl
    only (suc k) e = absurd (omega arith)
one_leaf p rule v (suc i) f l = absurd (omega arith)

-- two halves, each with what holds at its own indices
module _ (s : ℕ) (p : List ℕ) (rule : ℕ → Rule) (v : List ℤ) (short : Short (suc s) p) where
  abbrev h : ℕ
  h = 2 ^ s

  abbrev lo : Out
  lo = left s h p rule v

  abbrev ro : Out
  ro = right s h p rule v

  long : length lo.bits ≡ h
  long = length-bits s (take h p) rule (left_of h p v) (short-left s p)

  -- its decided leaves: those after the prefix
  left-leaves : length lo.leaves ≡ h - length p
  left-leaves = omega (arith, length-leaves s (take h p) rule (left_of h p v) (short-left s p), length-take h p)

  left_index : (i : ℕ) → i < h → Decision s (take h p) rule (left_of h p v) lo i → Decision (suc s) p rule v (halves s h p rule v) i
  left_index i l d = record {
    given = λ c. bit ∙ d.given (omega (arith, length-take h p)) ∙ get_or-take h p i 0 l;
    decides = λ c. bit ∙ d.decides (omega (arith, length-take h p)) ∙ ap (decided (rule i)) (here (omega arith));
    value = λ k e.
        get_or-append lo.leaves ro.leaves (pos 0) k (omega (arith, left-leaves)) ∙ d.value k (omega (arith, length-take h p))
        ∙ here (omega arith);
  }
    where
      bit : get_or (lo.bits ++ ro.bits) i 0 ≡ get_or lo.bits i 0
      bit = get_or-append lo.bits ro.bits 0 i (omega (arith, long))

      here : length p < h → leaf_value s (left_of h p v) lo.bits i ≡ leaf_value (suc s) v (lo.bits ++ ro.bits) i
      here c =
          ap (λ (t : Bool). leaf_value s (cond t [] (left_values h v)) lo.bits i) (lt-leb h (length p) c)
          ∙ ap (λ (x : List ℕ). leaf_value s (left_values h v) x i) (sym (take_at lo.bits ro.bits h long))
          ∙ sym (leaf-left s v (lo.bits ++ ro.bits) i l)

  right_index : (i : ℕ) → i < h → Decision s (drop h p) (λ k. rule (h + k)) (right_values h v lo.sums) ro i → Decision (suc s) p rule v (halves s h p rule v) (h + i)
  right_index i l d = record {
    given = λ c. bit ∙ d.given (omega (arith, length-drop h p)) ∙ get_or-drop h p i 0;
    decides = λ c. bit ∙ d.decides (omega (arith, length-drop h p)) ∙ ap (decided (rule (h + i))) here;
    value = λ k e.
        let m : ℕ = length lo.leaves in
        let past : k ≡ m + (k - m) = omega (arith, left-leaves) in
        ap (λ (n : ℕ). get_or (lo.leaves ++ ro.leaves) n (pos 0)) past ∙ get_or-append-add lo.leaves ro.leaves (k - m) (pos 0)
        ∙ d.value (k - m) (omega (arith, length-drop h p, left-leaves)) ∙ here;
  }
    where
      bit : get_or (lo.bits ++ ro.bits) (h + i) 0 ≡ get_or ro.bits i 0
      bit = ap (λ (n : ℕ). get_or (lo.bits ++ ro.bits) (n + i) 0) (sym long) ∙ get_or-append-add lo.bits ro.bits i 0

      here : leaf_value s (right_values h v lo.sums) ro.bits i ≡ leaf_value (suc s) v (lo.bits ++ ro.bits) (h + i)
      here =
          ap (λ (x : List ℕ). leaf_value s (right_values h v x) ro.bits i) (sums-transformed s (take h p) rule (left_of h p v) (short-left s p))
          ∙ ap₂ (λ (a b : List ℕ). leaf_value s (right_values h v (transformed s a)) b i)
          (sym (take_at lo.bits ro.bits h long)) (sym (drop_at lo.bits ro.bits h long))
          ∙ sym (leaf-right s v (lo.bits ++ ro.bits) i)

pub decision : (s : ℕ) (p : List ℕ) (rule : ℕ → Rule) (v : List ℤ) → Short s p → (i : ℕ) → i < 2 ^ s → Decision s p rule v (node s p rule v) i
decision zero p rule v short i l =
    leaf_cases (λ o. Decision 0 p rule v o i) 0 p rule v (λ f. all-forced 0 p rule v i f l) (λ f. one_leaf p rule v i f l)
decision (suc s) p rule v short i l =
    node_cases (λ o. Decision (suc s) p rule v o i) s p rule v (λ f. all-forced (suc s) p rule v i f l)
    (λ f. by-halves (Decision (suc s) p rule v (halves s (2 ^ s) p rule v)) s
    (λ k m. left_index s p rule v short k m (decision s (take (2 ^ s) p) rule _ (short-left s p) k m))
    (λ k m. right_index s p rule v short k m (decision s (drop (2 ^ s) p) _ _ (short-right s p short) k m)) i l)

-- so a bit after the prefix is decided from its leaf value in the result
pub bit-decided : (s : ℕ) (p : List ℕ) (rule : ℕ → Rule) (v : List ℤ) → Short s p → (i k : ℕ) → length p + k ≡ i → i < 2 ^ s → get_or (node s p rule v).bits i 0 ≡ decided (rule i) (get_or (node s p rule v).leaves k (pos 0))
bit-decided s p rule v short i k e l =
    let d = decision s p rule v short i l in
    d.decides (omega arith) ∙ ap (decided (rule i)) (sym (d.value k e))
