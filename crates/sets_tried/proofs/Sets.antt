-- Each set that is tried can be flipped and has at most w indices, and no set is tried twice.
use mathlib.Core.Path.{◌≡◌, refl, sym, ap, ◌∙◌, subst}
use mathlib.Core.Bool.{cond}
use mathlib.Core.Logic.{inr, ⊎_elim}
use mathlib.Core.List.Memᴰ
use mathlib.Core.List.{List, [], ◌∷◌, ◌++◌, append-nil, Memᴰ}
use Prim.Native.Nat.{ℕ, zero, suc, ◌-◌, ◌<◌}
use native.Mathlib.Omega.{arith}
use lib.Dec.{ltb}
use lib.IntN.{ℤ}
use lib.ListN.{length, get_or, take, length-append}
use lib.Seq.{take_at, get_or_at}
use Rattle.laws.specs.Insert.{insert_by}
use Rattle.laws.proofs.Choice.{cond_ind}
use Rattle.laws.proofs.Indices.{member-at}
use Rattle.laws.proofs.Pairs.{Pairs, none, one, take-member, pairs_head, pairs_tail, pairs_take, pairs_snoc}
use Rattle.laws.proofs.Insert.{insert_member, insert_pairs}
use Rattle.bits.specs.Mask.{mask_bit}
use Rattle.code.specs.declared.Code.{Code}
use Rattle.code.specs.Code.{code_length}
use Rattle.decoder.specs.declared.Search.{Search}
use Rattle.decoder.specs.Candidate.{past_largest, Candidate, candidate, extensions, precedes, insert_each}
use Rattle.decoder.specs.Tried.{tried}
use Rattle.decoder.specs.Clauses.{leaves_of, generated_by, tried_by}
use Rattle.sets_tried.specs.Claims.{FlipSet}
use Rattle.sets_tried.proofs.Members.{insert_each_keeps, tests_ind, extension_member, generated-member, generated_flips, first_flips}

-- ---- what each set is

-- a property that what is generated from a set that has it has too
module _ (P : List ℕ → Type 0) (generate : List ℕ → List Candidate) (more : (is : List ℕ) → P is → (x : Candidate) → Memᴰ x (generate is) → P x.flips) where
  -- if all untried sets have it, each set that is tried has it
  tried-each : (m : ℕ) (untried : List Candidate) → ((x : Candidate) → Memᴰ x untried → P x.flips) → (is : List ℕ) → Memᴰ is (tried generate m untried) → P is
  unfolding tried
  tried-each zero untried each is p = absurd (Memᴰ.not-nil p)
  tried-each (suc m) [] each is p = absurd (Memᴰ.not-nil p)
  tried-each (suc m) (x ∷ untried) each is p =
      let this : P x.flips = each x (Memᴰ.head refl) in
      ⊎_elim (λ e. subst P (sym e) this)
      (tried-each m (insert_each m (generate x.flips) untried)
      (insert_each_keeps (λ y. P y.flips) m (generate x.flips) untried (more x.flips this) (λ y q. each y (Memᴰ.tail q))) is)
      (Memᴰ.cases_cons p)

module _ (s : Search) (mask : List ℕ) (c : Code) (v : List ℤ) where
  pub flip_sets_lem : (is : List ℕ) → Memᴰ is (tried_by s mask c v) → FlipSet mask (code_length c) s.w is
  flip_sets_lem =
      tried-each (FlipSet mask (code_length c) s.w) (generated_by s mask c v) (λ is p x. generated_flips s mask c v is (inr p))
      (s.limit - 1) (insert_each (s.limit - 1) (generated_by s mask c v []) []) (first_flips s mask c v (s.limit - 1))

  pub flip_set_each : (a : ℕ) → a < length (tried_by s mask c v) → FlipSet mask (code_length c) s.w (get_or (tried_by s mask c v) a [])
  flip_set_each a l = flip_sets_lem (get_or (tried_by s mask c v) a []) (member-at [] (tried_by s mask c v) a l)

-- ---- sets that all differ

-- no two of some candidates have one set
abbrev pub Apart : List Candidate → Type 0
Apart = Pairs (λ x y. x.flips ≡ y.flips → ⊥)

apart-insert_each : (m : ℕ) (xs ys : List Candidate) → ((x y : Candidate) → Memᴰ x xs → Memᴰ y ys → x.flips ≡ y.flips → ⊥) → Apart xs → Apart ys → Apart (insert_each m xs ys)
unfolding insert_each
apart-insert_each m [] ys f p q = q
apart-insert_each m (x ∷ xs) ys f p q =
    let here = Memᴰ.head refl in
    apart-insert_each m xs (take m (insert_by precedes x ys))
    (λ z y r t e. ⊎_elim (λ i. pairs_head p z r (ap (λ (u : Candidate). u.flips) (sym i) ∙ sym e)) (λ k. f z y (Memᴰ.tail r) k e) (insert_member precedes x ys (take-member m (insert_by precedes x ys) t)))
    (pairs_tail p) (pairs_take m (insert_by precedes x ys) (insert_pairs precedes x ys (λ y z r _ _. f x z here r) (λ y r _ e. f x y here r (sym e)) q))

-- two sets that have an index more each
snoc-same : (is js : List ℕ) (i j : ℕ) → is ++ (i ∷ []) ≡ js ++ (j ∷ []) → (is ≡ js) × (i ≡ j)
snoc-same is js i j e =
    let same : length js ≡ length is = omega (arith, ap length e, length-append is (i ∷ []), length-append js (j ∷ [])) in (
      sym (take_at is (i ∷ []) (length is) refl) ∙ ap (take (length is)) e ∙ take_at js (j ∷ []) (length is) same,
      sym (get_or_at is i [] 0 (length is) refl) ∙ ap (λ (ks : List ℕ). get_or ks (length is) 0) e ∙ get_or_at js j [] 0 (length is) same,
    )

-- what one set generates differs in the last index
extensions-apart : (mask : List ℕ) (leaves : List ℤ) (is : List ℕ) (n : ℕ) → Apart (extensions mask leaves is n)
unfolding extensions
extensions-apart mask leaves is zero = none
extensions-apart mask leaves is (suc n) =
    tests_ind (λ t. Apart (extensions mask leaves is n ++ cond t (candidate mask leaves (is ++ (n ∷ [])) ∷ []) [])) (mask_bit mask n) 1 (past_largest is) n
    (λ _ _. pairs_snoc (extensions mask leaves is n) (candidate mask leaves (is ++ (n ∷ [])))
    (λ y q e.
    let g = extension_member mask leaves is n q in
    omega (arith, g.1, (snoc-same is is g.0 n (ap (λ (u : Candidate). u.flips) (sym g.4) ∙ e)).1))
    (extensions-apart mask leaves is n))
    (subst Apart (sym (append-nil (extensions mask leaves is n))) (extensions-apart mask leaves is n))

-- ---- no set is tried twice

-- A search that has tried the sets `done`: of every set, tried or not, the set without its last index was tried before; no untried set was
-- tried, and they all differ.
pub record Searching (done : List (List ℕ)) (untried : List Candidate) : Type 0 where
  closed : (is : List ℕ) (j : ℕ) → Memᴰ (is ++ (j ∷ [])) done → Memᴰ is done
  from : (x : Candidate) → Memᴰ x untried → (is : List ℕ) (j : ℕ) → x.flips ≡ is ++ (j ∷ []) → Memᴰ is done
  new : (x : Candidate) → Memᴰ x untried → Memᴰ x.flips done → ⊥
  pub apart : Apart untried

module _ (generate : List ℕ → List Candidate) (extends : (is : List ℕ) (x : Candidate) → Memᴰ x (generate is) → (j : ℕ) × (x.flips ≡ is ++ (j ∷ [])))
    (generate-apart : (is : List ℕ) → Apart (generate is)) where
  -- the first untried set is tried: what it generates was neither tried nor untried, since it was not tried
  pub search_on : {done : List (List ℕ)} {x : Candidate} {untried : List Candidate} (m : ℕ) → Searching done (x ∷ untried) → Searching (x.flips ∷ done) (insert_each m (generate x.flips) untried)
  search_on {done} {x} {untried} m p = record {
    closed = λ is j q. Memᴰ.tail (⊎_elim (λ e. p.from x here is j (sym e)) (p.closed is j) (Memᴰ.cases_cons q));
    from = insert_each_keeps (λ y. (is : List ℕ) (j : ℕ) → y.flips ≡ is ++ (j ∷ []) → Memᴰ is (x.flips ∷ done)) m (generate x.flips) untried
        (λ y q is j e. let g = extends x.flips y q in Memᴰ.head (snoc-same is x.flips j g.0 (sym e ∙ g.1)).0)
        (λ y q is j e. Memᴰ.tail (p.from y (Memᴰ.tail q) is j e));
    new = insert_each_keeps (λ y. Memᴰ y.flips (x.flips ∷ done) → ⊥) m (generate x.flips) untried
        (λ y q r.
        let g = extends x.flips y q in
        ⊎_elim (λ e. omega (arith, ap length (sym e ∙ g.1), length-append x.flips (g.0 ∷ [])))
        (λ t. p.new x here (p.closed x.flips g.0 (Memᴰ.cast (sym g.1) t))) (Memᴰ.cases_cons r))
        (λ y q r. ⊎_elim (λ e. pairs_head p.apart y q (sym e)) (p.new y (Memᴰ.tail q)) (Memᴰ.cases_cons r));
    apart = apart-insert_each m (generate x.flips) untried
        (λ z y q r e. let g = extends x.flips z q in p.new x here (p.from y (Memᴰ.tail r) x.flips g.0 (sym e ∙ g.1)))
        (generate-apart x.flips) (pairs_tail p.apart);
  }
    where
      here : Memᴰ x (x ∷ untried)
      here = Memᴰ.head refl

  tried-new : (m : ℕ) (done : List (List ℕ)) (untried : List Candidate) → Searching done untried → (is : List ℕ) → Memᴰ is (tried generate m untried) → Memᴰ is done → ⊥
  unfolding tried
  tried-new zero done untried p is q r = Memᴰ.not-nil q
  tried-new (suc m) done [] p is q r = Memᴰ.not-nil q
  tried-new (suc m) done (x ∷ untried) p is q r =
      ⊎_elim (λ e. p.new x (Memᴰ.head refl) (Memᴰ.cast (sym e) r))
      (λ t. tried-new m (x.flips ∷ done) (insert_each m (generate x.flips) untried) (search_on m p) is t (Memᴰ.tail r)) (Memᴰ.cases_cons q)

  tried_distinct : (m : ℕ) (done : List (List ℕ)) (untried : List Candidate) → Searching done untried → (a b : ℕ) → a < b → b < length (tried generate m untried) → get_or (tried generate m untried) a [] ≡ get_or (tried generate m untried) b [] → ⊥
  unfolding tried
  tried_distinct zero done untried p a b l k e = omega arith
  tried_distinct (suc m) done [] p a b l k e = omega arith
  tried_distinct (suc m) done (x ∷ untried) p a zero l k e = omega arith
  tried_distinct (suc m) done (x ∷ untried) p zero (suc b) l k e =
      let rest : List Candidate = insert_each m (generate x.flips) untried in
      tried-new m (x.flips ∷ done) rest (search_on m p) (get_or (tried generate m rest) b []) (member-at [] (tried generate m rest) b (omega arith)) (Memᴰ.head (sym e))
  tried_distinct (suc m) done (x ∷ untried) p (suc a) (suc b) l k e =
      tried_distinct m (x.flips ∷ done) (insert_each m (generate x.flips) untried) (search_on m p) a b (omega arith) (omega arith) e

-- trial 1, which flips nothing, is to come
pub search_none : Searching [] (record { flips = []; metric = 0 } ∷ [])
search_none = record {
  closed = λ is j q. absurd (Memᴰ.not-nil q);
  from = λ x q is j e. absurd (omega (arith, ap (λ (y : Candidate). length y.flips) (Memᴰ.eq_of_singleton q), ap length e, length-append is (j ∷ [])));
  new = λ x q r. Memᴰ.not-nil r;
  apart = one (λ x q. absurd (Memᴰ.not-nil q)) none;
}

module _ (s : Search) (mask : List ℕ) (c : Code) (v : List ℤ) where
  pub generated_extends : (is : List ℕ) (x : Candidate) → Memᴰ x (generated_by s mask c v is) → (j : ℕ) × (x.flips ≡ is ++ (j ∷ []))
  generated_extends is x q = let g = (generated-member s mask c v is q).1 in (g.0, ap (λ (u : Candidate). u.flips) g.4)

  pub generated-apart : (is : List ℕ) → Apart (generated_by s mask c v is)
  generated-apart is =
      cond_ind Apart (ltb (length is) s.w) (extensions mask (leaves_of s.restart mask c v is) is (code_length c)) []
      (λ _. extensions-apart mask (leaves_of s.restart mask c v is) is (code_length c)) (λ _. none)

  pub sets_distinct : (a b : ℕ) → a < b → b < length (tried_by s mask c v) → get_or (tried_by s mask c v) a [] ≡ get_or (tried_by s mask c v) b [] → ⊥
  sets_distinct =
      tried_distinct (generated_by s mask c v) generated_extends generated-apart (s.limit - 1) ([] ∷ []) (insert_each (s.limit - 1) (generated_by s mask c v []) [])
      (search_on (generated_by s mask c v) generated_extends generated-apart (s.limit - 1) search_none)
