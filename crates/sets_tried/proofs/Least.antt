-- The untried sets stand in order, so the first of them, which is tried next, comes before all others.
use mathlib.Core.Path.{◌≡◌, refl, sym, ap, ◌∙◌, subst}
use mathlib.Core.Bool.{true, false, true≢false}
use mathlib.Core.Logic.{◌⊎◌, inl, inr, ⊎_elim}
use mathlib.Core.List.Memᴰ
use mathlib.Core.List.{List, [], ◌∷◌, ◌++◌, Memᴰ}
use Prim.Native.Nat.{ℕ, zero, suc, ◌+◌, ◌-◌, ◌<◌}
use native.Mathlib.Omega.{arith}
use lib.IntN.{ℤ}
use lib.ListN.{length, get_or}
use Rattle.laws.specs.Insert.{insert_by, earlier}
use Rattle.laws.proofs.Choice.{is_true, is_false}
use Rattle.laws.proofs.Pairs.{Pairs, none, pairs_head, pairs_tail}
use Rattle.laws.proofs.Insert.{insert_member, insert_pairs}
use Rattle.laws.proofs.Earlier.{first_by_trans, not_first, first_by_either, earlier_trans, not_earlier, neither_earlier}
use Rattle.code.specs.declared.Code.{Code}
use Rattle.decoder.specs.declared.Search.{Search}
use Rattle.decoder.specs.Candidate.{Candidate, precedes}
use Rattle.decoder.specs.Clauses.{generated_by, tried_by}
use Rattle.sets_tried.specs.Claims.{insert_all, tried_of_all, untried_after, OwnMetric, LeastFirst}
use Rattle.sets_tried.proofs.Members.{generated-metric}
use Rattle.sets_tried.proofs.Kept.{insert_each-all, kept_loses_nothing}
use Rattle.sets_tried.proofs.Sets.{Apart, Searching, search_on, search_none, generated_extends, generated-apart}

-- ---- the order

before_trans : (x y z : Candidate) → precedes x y ≡ true → precedes y z ≡ true → precedes x z ≡ true
before_trans x y z =
    first_by_trans x.metric y.metric z.metric (earlier x.flips y.flips) (earlier y.flips z.flips) (earlier x.flips z.flips)
    (earlier_trans x.flips y.flips z.flips)

-- what is not before y is not before what is before y
not_before : (x y z : Candidate) → precedes x y ≡ true → precedes z y ≡ false → precedes z x ≡ false
not_before x y z p q = is_false (precedes z x) (λ e. true≢false (sym (before_trans z x y e p) ∙ q))

-- of two different sets that one comes first which the other is not before
comes_before : (x y : Candidate) → (x.flips ≡ y.flips → ⊥) → precedes y x ≡ false → precedes x y ≡ true
comes_before x y f p = is_true (precedes x y) (λ e.
    let q = first_by_either x.metric y.metric (earlier x.flips y.flips) (earlier y.flips x.flips) e p in
    f (neither_earlier x.flips y.flips q.1 q.2))

-- ---- the untried sets stand in order

-- of some candidates none is before one that stands before it
abbrev InOrder : List Candidate → Type 0
InOrder = Pairs (λ x y. precedes y x ≡ false)

insert_order : (x : Candidate) (ys : List Candidate) → InOrder ys → InOrder (insert_by precedes x ys)
insert_order x ys =
    insert_pairs precedes x ys
    (λ y z _ b. ⊎_elim (λ e. subst (λ (u : Candidate). precedes u x ≡ false) (sym e) (not_before x y y b (not_first y.metric _ (not_earlier y.flips)))) (not_before x y z b))
    (λ y _ b. b)

insert_all_order : (xs ys : List Candidate) → InOrder ys → InOrder (insert_all xs ys)
unfolding insert_all
insert_all_order [] ys p = p
insert_all_order (x ∷ xs) ys p = insert_all_order xs (insert_by precedes x ys) (insert_order x ys p)

insert_all-member : (xs ys : List Candidate) {z : Candidate} → Memᴰ z (insert_all xs ys) → Memᴰ z xs ⊎ Memᴰ z ys
unfolding insert_all
insert_all-member [] ys p = inr p
insert_all-member (x ∷ xs) ys p =
    ⊎_elim (λ q. inl (Memᴰ.tail q)) (λ q. ⊎_elim (λ e. inl (Memᴰ.head e)) (λ r. inr r) (insert_member precedes x ys q)) (insert_all-member xs (insert_by precedes x ys) p)

module _ (generate : List ℕ → List Candidate) where
  untried_order : (t : ℕ) (untried : List Candidate) → InOrder untried → InOrder (untried_after generate t untried)
  unfolding untried_after
  untried_order zero untried p = p
  untried_order (suc t) [] p = p
  untried_order (suc t) (x ∷ untried) p = untried_order t (insert_all (generate x.flips) untried) (insert_all_order (generate x.flips) untried (pairs_tail p))

  -- what holds of all that is generated holds of the untried sets
  untried_each : (P : Candidate → Type 0) → ((is : List ℕ) (x : Candidate) → Memᴰ x (generate is) → P x) → (t : ℕ) (untried : List Candidate) → ((x : Candidate) → Memᴰ x untried → P x) → (x : Candidate) → Memᴰ x (untried_after generate t untried) → P x
  unfolding untried_after
  untried_each P f zero untried each = each
  untried_each P f (suc t) [] each = each
  untried_each P f (suc t) (x ∷ untried) each =
      untried_each P f t (insert_all (generate x.flips) untried)
      (λ y p. ⊎_elim (f x.flips y) (λ q. each y (Memᴰ.tail q)) (insert_all-member (generate x.flips) untried p))

  -- the first of them is tried next
  first-tried : (m t : ℕ) (untried : List Candidate) → t < length (tried_of_all generate m untried) → (x : Candidate) × (xs : List Candidate) × (untried_after generate t untried ≡ x ∷ xs) × (get_or (tried_of_all generate m untried) t [] ≡ x.flips)
  unfolding untried_after tried_of_all
  first-tried zero t untried l = absurd (omega arith)
  first-tried (suc m) t [] l = absurd (omega arith)
  first-tried (suc m) zero (x ∷ untried) l = (x, untried, refl, refl)
  first-tried (suc m) (suc t) (x ∷ untried) l = first-tried m t (insert_all (generate x.flips) untried) (omega arith)

-- no two of them have one set
module _ (generate : List ℕ → List Candidate) (extends : (is : List ℕ) (x : Candidate) → Memᴰ x (generate is) → (j : ℕ) × (x.flips ≡ is ++ (j ∷ [])))
    (generate-apart : (is : List ℕ) → Apart (generate is)) where
  search_all : {done : List (List ℕ)} {x : Candidate} {untried : List Candidate} → Searching done (x ∷ untried) → Searching (x.flips ∷ done) (insert_all (generate x.flips) untried)
  search_all {done} {x} {untried} p =
      subst (Searching (x.flips ∷ done)) (insert_each-all (generate x.flips) untried)
      (search_on generate extends generate-apart (length untried + length (insert_all (generate x.flips) untried)) p)

  untried_apart : (t : ℕ) (done : List (List ℕ)) (untried : List Candidate) → Searching done untried → Apart (untried_after generate t untried)
  unfolding untried_after
  untried_apart zero done untried p = p.apart
  untried_apart (suc t) done [] p = p.apart
  untried_apart (suc t) done (x ∷ untried) p = untried_apart t (x.flips ∷ done) (insert_all (generate x.flips) untried) (search_all p)

-- "Order is metric, then the list of indices, lower first": each set that is tried comes before those that are untried then
pub least_first : (s : Search) (mask : List ℕ) (c : Code) (v : List ℤ) (t : ℕ) → t < length (tried_by s mask c v) → LeastFirst s mask c v t
least_first s mask c v t l =
    let generate : List ℕ → List Candidate = generated_by s mask c v in
    let first : List Candidate = insert_all (generate []) [] in
    let kept = kept_loses_nothing s mask c v in
    let order : InOrder (untried_after generate t first) = untried_order generate t first (insert_all_order (generate []) [] none) in
    let extends = generated_extends s mask c v in
    let apart : Apart (untried_after generate t first) =
    untried_apart generate extends (generated-apart s mask c v) t ([] ∷ []) first (search_all generate extends (generated-apart s mask c v) search_none) in
    let x = first-tried generate (s.limit - 1) t first (omega (arith, ap length kept)) in
    record {
      next = x.0;
      others = x.1;
      untried_are = x.2;
      tries = ap (λ (sets : List (List ℕ)). get_or sets t []) kept ∙ x.3;
      least = λ y p. comes_before x.0 y (pairs_head (subst Apart x.2 apart) y p) (pairs_head (subst InOrder x.2 order) y p);
      metrics = subst (λ (ys : List Candidate). (y : Candidate) → Memᴰ y ys → OwnMetric s mask c v y) x.2
          (untried_each generate (OwnMetric s mask c v) (λ is y p. generated-metric s mask c v is p) t first
          (λ y p. ⊎_elim (λ q. generated-metric s mask c v [] q) (λ q. absurd (Memᴰ.not-nil q)) (insert_all-member (generate []) [] p)));
    }
