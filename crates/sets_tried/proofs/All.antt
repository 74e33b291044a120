-- If sets are tried while trials remain, none is left: every set that can be flipped has been tried.
use mathlib.Core.Path.{◌≡◌, sym, ap, ◌∙◌, subst}
use mathlib.Core.Bool.{Bool, true, ◌&&◌, cond, and-eq-true_iff}
use mathlib.Core.Logic.{⊎_elim}
use mathlib.Core.List.Memᴰ
use mathlib.Core.List.{List, [], ◌∷◌, ◌++◌, Memᴰ}
use Prim.Native.Nat.{ℕ, zero, suc, ◌-◌, ◌<◌, ◌≤◌}
use native.Mathlib.Omega.{arith}
use borrow.Author.Tests.{lt-ltb, le-leb, eq-eqb}
use lib.Dec.{leb, eqb}
use lib.IntN.{ℤ}
use lib.ListN.{length, get_or, take}
use lib.Seq.{take-suc, take_all, get_or-take, length-take-le}
use Rattle.laws.specs.Insert.{insert_by}
use Rattle.laws.proofs.Indices.{lt_cases}
use Rattle.laws.proofs.Insert.{member_insert}
use Rattle.bits.specs.Mask.{mask_bit}
use Rattle.code.specs.declared.Code.{Code}
use Rattle.code.specs.Code.{code_length}
use Rattle.decoder.specs.declared.Search.{Search}
use Rattle.decoder.specs.Candidate.{past_largest, Candidate, candidate, extensions, precedes}
use Rattle.decoder.specs.Clauses.{leaves_of, generated_by, tried_by}
use Rattle.sets_tried.specs.Claims.{FlipSet, insert_all, tried_of_all}
use Rattle.sets_tried.proofs.Members.{past-last}
use Rattle.sets_tried.proofs.Kept.{kept_loses_nothing}

-- ---- what is inserted is a member, and members stay

all_stay : (xs ys : List Candidate) {z : Candidate} → Memᴰ z ys → Memᴰ z (insert_all xs ys)
unfolding insert_all
all_stay [] ys p = p
all_stay (x ∷ xs) ys p = all_stay xs (insert_by precedes x ys) (member_insert precedes x ys (Memᴰ.tail p))

all_here : (xs ys : List Candidate) {z : Candidate} → Memᴰ z xs → Memᴰ z (insert_all xs ys)
unfolding insert_all
all_here [] ys p = absurd (Memᴰ.not-nil p)
all_here (x ∷ xs) ys p =
    ⊎_elim (λ e. all_stay xs (insert_by precedes x ys) (member_insert precedes x ys (Memᴰ.head e))) (all_here xs (insert_by precedes x ys)) (Memᴰ.cases_cons p)

-- ---- a search that ends while trials remain

module _ (generate : List ℕ → List Candidate) where
  -- every untried set is tried
  untried_tried : (m : ℕ) (untried : List Candidate) → length (tried_of_all generate m untried) < m → {x : Candidate} → Memᴰ x untried → Memᴰ x.flips (tried_of_all generate m untried)
  unfolding tried_of_all
  untried_tried zero untried l p = absurd (omega arith)
  untried_tried (suc m) [] l p = absurd (Memᴰ.not-nil p)
  untried_tried (suc m) (y ∷ untried) l p =
      ⊎_elim (λ e. Memᴰ.head (ap (λ (u : Candidate). u.flips) e))
      (λ q. Memᴰ.tail (untried_tried m (insert_all (generate y.flips) untried) (omega arith) (all_stay (generate y.flips) untried q)))
      (Memᴰ.cases_cons p)

  -- so is what a set that is tried generates
  generated-tried : (m : ℕ) (untried : List Candidate) → length (tried_of_all generate m untried) < m → (is : List ℕ) → Memᴰ is (tried_of_all generate m untried) → {x : Candidate} → Memᴰ x (generate is) → Memᴰ x.flips (tried_of_all generate m untried)
  unfolding tried_of_all
  generated-tried zero untried l is p q = absurd (omega arith)
  generated-tried (suc m) [] l is p q = absurd (Memᴰ.not-nil p)
  generated-tried (suc m) (y ∷ untried) l is p {x} q =
      let rest : List Candidate = insert_all (generate y.flips) untried in
      Memᴰ.tail
      (⊎_elim (λ e. untried_tried m rest (omega arith) (all_here (generate y.flips) untried (subst (λ (js : List ℕ). Memᴰ x (generate js)) e q)))
      (λ r. generated-tried m rest (omega arith) is r q) (Memᴰ.cases_cons p))

-- ---- what a trial generates is all that it can

member_extension : (mask : List ℕ) (leaves : List ℤ) (is : List ℕ) (n j : ℕ) → j < n → mask_bit mask j ≡ 1 → past_largest is ≤ j → Memᴰ (candidate mask leaves (is ++ (j ∷ []))) (extensions mask leaves is n)
unfolding extensions
member_extension mask leaves is zero j l one past = absurd (omega arith)
member_extension mask leaves is (suc n) j l one past =
    lt_cases j n (λ k. Memᴰ.append_left _ (member_extension mask leaves is n j k one past))
    (λ k.
    let e : n ≡ j = omega arith in
    let tests : (eqb (mask_bit mask n) 1 && leb (past_largest is) n) ≡ true =
    (and-eq-true_iff (eqb (mask_bit mask n) 1) (leb (past_largest is) n)).1 (eq-eqb (mask_bit mask n) 1 (ap (mask_bit mask) e ∙ one), le-leb (past_largest is) n (omega arith)) in
    Memᴰ.append_right (extensions mask leaves is n)
    (subst (λ (t : Bool). Memᴰ (candidate mask leaves (is ++ (j ∷ []))) (cond t (candidate mask leaves (is ++ (n ∷ [])) ∷ []) [])) (sym tests)
    (Memᴰ.head (ap (λ (k : ℕ). candidate mask leaves (is ++ (k ∷ []))) (sym e)))))

module _ (s : Search) (mask : List ℕ) (c : Code) (v : List ℤ) where
  member-generated : (is : List ℕ) (j : ℕ) → length is < s.w → j < code_length c → mask_bit mask j ≡ 1 → past_largest is ≤ j → Memᴰ (candidate mask (leaves_of s.restart mask c v is) (is ++ (j ∷ []))) (generated_by s mask c v is)
  member-generated is j short l one past =
      let leaves : List ℤ = leaves_of s.restart mask c v is in
      subst (λ (t : Bool). Memᴰ (candidate mask leaves (is ++ (j ∷ []))) (cond t (extensions mask leaves is (code_length c)) [])) (sym (lt-ltb _ _ short))
      (member_extension mask leaves is (code_length c) j l one past)

  module _ (few : length (tried_by s mask c v) < s.limit - 1) (is : List ℕ) (p : FlipSet mask (code_length c) s.w is) where
    abbrev first : List Candidate
    first = insert_all (generated_by s mask c v []) []

    abbrev sets : List (List ℕ)
    sets = tried_of_all (generated_by s mask c v) (s.limit - 1) first

    left : length sets < s.limit - 1
    left = omega (arith, ap length (kept_loses_nothing s mask c v))

    -- the first indices of a set, one by one
    prefix-tried : (k : ℕ) → k < length is → Memᴰ (take (suc k) is) sets
    prefix-tried zero l =
        Memᴰ.cast (take-suc is 0 0 l)
        (untried_tried (generated_by s mask c v) (s.limit - 1) first left
        (all_here (generated_by s mask c v []) [] (member-generated [] (get_or is 0 0) (omega (arith, p.most)) (p.flips.below 0 l) (p.flips.information 0 l) (omega arith))))
    prefix-tried (suc k) l =
        let js : List ℕ = take (suc k) is in
        let long : length js ≡ suc k = length-take-le (suc k) is (omega arith) in
        let past : past_largest js ≡ suc (get_or is k 0) = past-last js k (sym long) ∙ ap suc (get_or-take (suc k) is k 0 (omega arith)) in
        Memᴰ.cast (take-suc is (suc k) 0 l)
        (generated-tried (generated_by s mask c v) (s.limit - 1) first left js (prefix-tried k (omega arith))
        (member-generated js (get_or is (suc k) 0) (omega (arith, p.most)) (p.flips.below (suc k) l) (p.flips.information (suc k) l)
        (omega (arith, past, p.flips.ascending k (suc k) (omega arith) l))))

    -- "Where no untried set is left, that ends the trials made": if fewer sets are tried than the limit allows, every set that can be
    -- flipped has been tried
    pub all-tried : Memᴰ is (tried_by s mask c v)
    all-tried =
        let last : ℕ = length is - 1 in
        subst (Memᴰ is) (sym (kept_loses_nothing s mask c v))
        (Memᴰ.cast (sym (take_all (suc last) is (omega arith))) (prefix-tried last (omega (arith, p.flips.some))))
