-- A loop that stores f 0, f 1, … from index `at` of the list w on, one element a turn: after n turns the list is `filled f at w n`.
use mathlib.Core.Path.{◌≡◌, refl, sym, ap, ◌∙◌}
use mathlib.Core.List.{List, [], ◌∷◌, ◌++◌, append_assoc}
use Prim.Native.Nat.{ℕ, zero, suc, ◌+◌, ◌<◌, ◌≤◌}
use native.Mathlib.Numerals.{add-one}
use native.Mathlib.Omega.{arith}
use lib.ListN.{length, take, drop, get_or, set, length-set, length-append}
use lib.Seq.{get_or-set_other, length-take-le, set_at, drop-cons, append_snoc}
use Rattle.laws.specs.Table.{table}
use Rattle.laws.specs.Clauses.{splice}
use Rattle.laws.proofs.Table.{length-table, table-snoc}
use Rattle.laws.proofs.Segment.{splice-nil, splice-whole}

module _ {A : Type 0} where
  unfoldable pub filled : (ℕ → A) → ℕ → List A → ℕ → List A
  filled f at w zero = w
  filled f at w (suc n) = set (filled f at w n) (at + n) (f n)

  -- what lies past the stores is as it was
  get_or-filled : (f : ℕ → A) (at : ℕ) (w : List A) (n k : ℕ) (d : A) → at + n ≤ k → get_or (filled f at w n) k d ≡ get_or w k d
  unfolding filled
  get_or-filled f at w zero k d h = refl
  get_or-filled f at w (suc n) k d h =
      get_or-set_other (filled f at w n) (at + n) k (f n) d (λ e. omega (arith, e)) ∙ get_or-filled f at w n k d (omega arith)

  -- one more store is one more element of the splice
  pub splice-snoc : (w : List A) (at : ℕ) (ys : List A) (n : ℕ) (a : A) → length ys ≡ n → at + n < length w → set (splice w at ys) (at + n) a ≡ splice w at (ys ++ (a ∷ []))
  unfolding splice
  splice-snoc w at ys n a len h =
      let p : List A = take at w ++ ys in
      let rest : List A = drop (suc (at + n)) w in
      let plen : length p ≡ at + n = omega (arith, length-append (take at w) ys, length-take-le at w (omega arith)) in
      let seam : suc (at + n) ≡ at + length (ys ++ (a ∷ [])) = omega (arith, length-append ys (a ∷ [])) in
      ap (λ (k : ℕ). set (take at w ++ (ys ++ drop (at + k) w)) (at + n) a) len
      ∙ ap (λ (r : List A). set r (at + n) a) (sym (append_assoc (take at w) ys (drop (at + n) w)))
      ∙ ap (λ (r : List A). set (p ++ r) (at + n) a) (drop-cons w (at + n) a h)
      ∙ set_at p (get_or w (at + n) a) rest a (at + n) plen
      ∙ sym (append_snoc p a rest)
      ∙ ap (λ (r : List A). r ++ rest) (append_assoc (take at w) ys (a ∷ []))
      ∙ append_assoc (take at w) (ys ++ (a ∷ [])) rest
      ∙ ap (λ (k : ℕ). take at w ++ ((ys ++ (a ∷ [])) ++ drop k w)) seam

  -- all stores together are one splice
  filled-splice : (f : ℕ → A) (at : ℕ) (w : List A) (n : ℕ) → at + n ≤ length w → filled f at w n ≡ splice w at (table f n)
  unfolding filled table
  filled-splice f at w zero h = sym (splice-nil w at)
  filled-splice f at w (suc n) h =
      ap (λ (r : List A). set r (at + n) (f n)) (filled-splice f at w n (omega arith))
      ∙ splice-snoc w at (table f n) n (f n) (length-table f n) (omega arith)
      ∙ ap (splice w at) (sym (table-snoc f n))

-- The invariant of a loop that fills a list: j of the `count` stores are made in w', which was w.
pub record Filling {A : Type 0} (f : ℕ → A) (at count : ℕ) (w w' : List A) (j : ℕ) : Type 0 where
  pub reached : j ≤ count
  pub same : length w' ≡ length w
  pub made : w' ≡ filled f at w j

module _ {A : Type 0} {f : ℕ → A} {at count : ℕ} {w : List A} where
  -- before the first turn
  pub filling_none : Filling f at count w w 0
  unfolding filled
  filling_none = record { reached = omega arith; same = refl; made = refl }

  module _ {w' : List A} {j : ℕ} (inv : Filling f at count w w' j) where
    -- a turn: what it stores is f's next
    pub filling_more : (k : ℕ) (x : A) → j < count → k ≡ at + j → x ≡ f j → Filling f at count w (set w' k x) (j + 1)
    unfolding filled
    filling_more k x l e q = record {
      reached = omega arith;
      same = length-set w' k x ∙ inv.same;
      made = rw (add-one, e, q, inv.made);
    }

    -- what lies past the stores is as it was
    pub filling_past : (k : ℕ) (d : A) → at + j ≤ k → get_or w' k d ≡ get_or w k d
    filling_past k d h = ap (λ (r : List A). get_or r k d) inv.made ∙ get_or-filled f at w j k d h

    -- after the last turn
    pub filling_done : count ≤ j → at + count ≤ length w → w' ≡ splice w at (table f count)
    filling_done h fits =
        let e : j ≡ count = omega (arith, inv.reached) in
        inv.made ∙ ap (filled f at w) e ∙ filled-splice f at w count fits

-- a list that is filled from its first element to its last
pub filling_whole : {A : Type 0} {f : ℕ → A} {w w' : List A} {j : ℕ} → Filling f 0 (length w) w w' j → length w ≤ j → w' ≡ table f (length w)
filling_whole {A} {f} {w} inv h =
    filling_done inv h (omega arith) ∙ splice-whole w (table f (length w)) (length-table f (length w))
