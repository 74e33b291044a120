-- A key inserted among keys in order: its place, what the list then holds, and that it is in order.
use mathlib.Core.Path.{◌≡◌, refl, ap, subst}
use mathlib.Core.Logic.{⊎_elim}
use mathlib.Core.List.{List, [], ◌∷◌, ◌++◌}
use Prim.Native.Nat.{ℕ, zero, suc, ◌≤◌, ◌<◌}
use native.Mathlib.Omega.{arith}
use borrow.Author.Tests.{ltb-true, ltb-false}
use lib.Dec.{ltb}
use lib.ListN.{length, get_or, take, drop}
use lib.Seq.{take-take}
use Rattle.laws.specs.Insert.{insert_by}
use Rattle.laws.proofs.Pairs.{pairs_take}
use Rattle.laws.proofs.Insert.{insert_cases, insert_pairs}
use Rattle.flip_order.specs.Claims.{Pairwise}
use Rattle.flip_order.proofs.Pairwise.{pairwise_of, pairs_of}
use Rattle.sets_queue.specs.Clauses.{insert_keys}

-- the first p keys are not above the key, the others are
pub insert_at : (key : ℕ) (ks : List ℕ) (p : ℕ) → ((a : ℕ) → a < p → a < length ks → get_or ks a 0 ≤ key) → ((a : ℕ) → p ≤ a → a < length ks → key < get_or ks a 0)
    → insert_by ltb key ks ≡ take p ks ++ (key ∷ drop p ks)
unfolding insert_by
insert_at key [] zero low high = refl
insert_at key [] (suc p) low high = refl
insert_at key (k ∷ ks) zero low high =
    insert_cases ltb (λ xs. xs ≡ key ∷ k ∷ ks) key k ks (λ e. refl) (λ e. absurd (omega (arith, ltb-false key k e, high 0 (omega arith) (omega arith))))
insert_at key (k ∷ ks) (suc p) low high =
    insert_cases ltb (λ xs. xs ≡ k ∷ (take p ks ++ (key ∷ drop p ks))) key k ks
    (λ e. absurd (omega (arith, ltb-true key k e, low 0 (omega arith) (omega arith))))
    (λ e. ap (λ (xs : List ℕ). k ∷ xs)
    (insert_at key ks p (λ a l m. low (suc a) (omega arith) (omega arith)) (λ a l m. high (suc a) (omega arith) (omega arith))))

abbrev pub Ordered : List ℕ → Type 0
Ordered = Pairwise (λ a b. a ≤ b)

pub insert_ordered : (key : ℕ) (ks : List ℕ) → Ordered ks → Ordered (insert_by ltb key ks)
insert_ordered key ks s = pairwise_of (insert_pairs ltb key ks
    (λ k j m e. ⊎_elim (λ q. omega (arith, ltb-true key k e)) (λ q. omega (arith, ltb-true key k e))) (λ k m e. ltb-false key k e) (pairs_of ks s))

pub take-ordered : (m : ℕ) (ks : List ℕ) → Ordered ks → Ordered (take m ks)
take-ordered m ks s = pairwise_of (pairs_take m ks (pairs_of ks s))

pub fewer-ordered : (n m : ℕ) (ks : List ℕ) → n ≤ m → Ordered (take m ks) → Ordered (take n ks)
fewer-ordered n m ks l s = subst Ordered (take-take n m ks l) (take-ordered n (take m ks) s)

-- no key, one key, and one list of keys after another
pub insert_none : (m : ℕ) (ks : List ℕ) → insert_keys m [] ks ≡ ks
unfolding insert_keys
insert_none m ks = refl

pub insert_one : (m key : ℕ) (ks : List ℕ) → insert_keys m (key ∷ []) ks ≡ take m (insert_by ltb key ks)
unfolding insert_keys
insert_one m key ks = refl

pub insert_more : (m : ℕ) (new more ks : List ℕ) → insert_keys m (new ++ more) ks ≡ insert_keys m more (insert_keys m new ks)
unfolding insert_keys
insert_more m [] more ks = refl
insert_more m (key ∷ new) more ks = insert_more m new more (take m (insert_by ltb key ks))
