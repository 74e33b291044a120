-- The untried sets by their members: where each comes from, and that a trial can flip it.
use mathlib.Core.Path.{◌≡◌, refl, sym, ap, ◌∙◌, subst}
use mathlib.Core.Bool.{Bool, true, false, ◌&&◌, cond, and-eq-true_iff}
use mathlib.Core.Logic.{◌⊎◌, inl, inr, ⊎_elim}
use mathlib.Core.List.Memᴰ
use mathlib.Core.List.{List, [], ◌∷◌, ◌++◌, Memᴰ}
use Prim.Native.Nat.{ℕ, zero, suc, ◌-◌, ◌<◌, ◌≤◌}
use native.Mathlib.Omega.{arith}
use borrow.Author.Tests.{ltb-true, leb-true, eqb-true}
use lib.Dec.{ltb, leb, eqb}
use lib.IntN.{ℤ}
use lib.ListN.{length, get_or, take, length-append}
use Rattle.laws.specs.Insert.{insert_by}
use Rattle.laws.proofs.Indices.{lt_cases}
use Rattle.laws.proofs.Pairs.{take-member}
use Rattle.laws.proofs.Insert.{insert_member}
use Rattle.bits.specs.Mask.{mask_bit}
use Rattle.code.specs.declared.Code.{Code}
use Rattle.code.specs.Code.{code_length}
use Rattle.flip_order.proofs.Pairwise.{place_of, pairwise_snoc}
use Rattle.flip_trial.specs.Flips.{Flips}
use Rattle.flip_trial.proofs.Flips.{flips_one}
use Rattle.decoder.specs.declared.Search.{Search}
use Rattle.decoder.specs.Candidate.{past_largest, metric_of, Candidate, candidate, extensions, precedes, insert_each}
use Rattle.decoder.specs.Clauses.{leaves_of, generated_by}
use Rattle.sets_tried.specs.Claims.{FlipSet, Extends, OwnMetric}

-- ---- untried sets

insert_each-member : (m : ℕ) (xs ys : List Candidate) {z : Candidate} → Memᴰ z (insert_each m xs ys) → Memᴰ z xs ⊎ Memᴰ z ys
unfolding insert_each
insert_each-member m [] ys p = inr p
insert_each-member m (x ∷ xs) ys p =
    ⊎_elim (λ q. inl (Memᴰ.tail q))
    (λ q. ⊎_elim (λ e. inl (Memᴰ.head e)) (λ r. inr r) (insert_member precedes x ys (take-member m (insert_by precedes x ys) q)))
    (insert_each-member m xs (take m (insert_by precedes x ys)) p)

-- what the old and the new ones have, those that are kept have
pub insert_each_keeps : (P : Candidate → Type 0) (m : ℕ) (xs ys : List Candidate) → ((x : Candidate) → Memᴰ x xs → P x) → ((x : Candidate) → Memᴰ x ys → P x) → (x : Candidate) → Memᴰ x (insert_each m xs ys) → P x
insert_each_keeps P m xs ys f g x p = ⊎_elim (f x) (g x) (insert_each-member m xs ys p)

-- ---- what a trial generates

-- what holds of the two tests of `extensions`
pub tests_ind : (P : Bool → Type 0) (a b c d : ℕ) → (a ≡ b → c ≤ d → P true) → P false → P (eqb a b && leb c d)
tests_ind P a b c d f g = go (eqb a b && leb c d) refl
  where
    go : (t : Bool) → (eqb a b && leb c d) ≡ t → P t
    go true e = let p = (and-eq-true_iff (eqb a b) (leb c d)).0 e in f (eqb-true a b p.0) (leb-true c d p.1)
    go false e = g

module _ (mask : List ℕ) (leaves : List ℤ) (is : List ℕ) where
  pub extension_member : (n : ℕ) {x : Candidate} → Memᴰ x (extensions mask leaves is n) → Extends mask leaves is n x
  unfolding extensions
  extension_member zero p = absurd (Memᴰ.not-nil p)
  extension_member (suc n) {x} p =
      tests_ind (λ t. Memᴰ x (extensions mask leaves is n ++ cond t (candidate mask leaves (is ++ (n ∷ [])) ∷ []) []) → Extends mask leaves is (suc n) x)
      (mask_bit mask n) 1 (past_largest is) n
      (λ e l q. ⊎_elim (λ r. later (extension_member n r)) (λ r. (n, omega arith, e, l, Memᴰ.eq_of_singleton r)) (Memᴰ.append_cases (extensions mask leaves is n) q))
      (λ q. ⊎_elim (λ r. later (extension_member n r)) (λ r. absurd (Memᴰ.not-nil r)) (Memᴰ.append_cases (extensions mask leaves is n) q)) p
    where
      later : Extends mask leaves is n x → Extends mask leaves is (suc n) x
      later q = (q.0, omega (arith, q.1), q.2, q.3, q.4)

-- ---- one index more

-- the largest index stands last
pub past-last : (is : List ℕ) (a : ℕ) → suc a ≡ length is → past_largest is ≡ suc (get_or is a 0)
past-last [] a e = absurd (omega arith)
past-last (i ∷ []) zero e = refl
past-last (i ∷ []) (suc a) e = absurd (omega arith)
past-last (i ∷ j ∷ is) zero e = absurd (omega arith)
past-last (i ∷ j ∷ is) (suc a) e = past-last (j ∷ is) a (omega arith)

module _ {mask : List ℕ} {size : ℕ} {is : List ℕ} (p : Flips mask size is) where
  abbrev last : ℕ
  last = length is - 1

  past_is : past_largest is ≡ suc (get_or is last 0)
  past_is = past-last is last (omega (arith, p.some))

  pub past-most : past_largest is ≤ size
  past-most = omega (arith, past_is, p.below last (omega (arith, p.some)))

  past-above : (a : ℕ) → a < length is → get_or is a 0 < past_largest is
  past-above a l =
      lt_cases a last (λ m. omega (arith, past_is, p.ascending a last m (omega arith)))
      (λ m. let e : a ≡ last = omega arith in omega (arith, past_is, ap (λ (k : ℕ). get_or is k 0) e))

snoc-each : (P : ℕ → Type 0) (is : List ℕ) (j : ℕ) → ((a : ℕ) → a < length is → P (get_or is a 0)) → P j → (a : ℕ) → a < length (is ++ (j ∷ [])) → P (get_or (is ++ (j ∷ [])) a 0)
snoc-each P [] j f x zero l = x
snoc-each P [] j f x (suc a) l = absurd (omega arith)
snoc-each P (i ∷ is) j f x zero l = f 0 (omega arith)
snoc-each P (i ∷ is) j f x (suc a) l = snoc-each P is j (λ b m. f (suc b) (omega arith)) x a (omega arith)

-- an information index above all indices of a set is appended
pub flips_more : {mask : List ℕ} {size : ℕ} (is : List ℕ) (j : ℕ) → (is ≡ []) ⊎ Flips mask size is → past_largest is ≤ j → j < size → mask_bit mask j ≡ 1 → Flips mask size (is ++ (j ∷ []))
flips_more {mask} {size} is j (inl e) past l one = subst (λ (ks : List ℕ). Flips mask size (ks ++ (j ∷ []))) (sym e) (flips_one l one)
flips_more {mask} {size} is j (inr p) past l one = record {
  some = omega (arith, length-append is (j ∷ []));
  below = snoc-each (λ k. k < size) is j p.below l;
  information = snoc-each (λ k. mask_bit mask k ≡ 1) is j p.information one;
  ascending = (pairwise_snoc {R = λ a b. a < b} is j (λ k m. let q = place_of m in omega (arith, q.2, past-above p q.0 q.1)) (record { at = p.ascending })).at;
}

module _ (s : Search) (mask : List ℕ) (c : Code) (v : List ℤ) (is : List ℕ) where
  -- only a set of fewer than w indices is extended
  pub generated-member : {x : Candidate} → Memᴰ x (generated_by s mask c v is) → (length is < s.w) × Extends mask (leaves_of s.restart mask c v is) is (code_length c) x
  generated-member {x} p = go (ltb (length is) s.w) refl p
    where
      leaves : List ℤ
      leaves = leaves_of s.restart mask c v is

      go : (t : Bool) → ltb (length is) s.w ≡ t → Memᴰ x (cond t (extensions mask leaves is (code_length c)) []) → (length is < s.w) × Extends mask leaves is (code_length c) x
      go true e q = (ltb-true _ _ e, extension_member mask leaves is (code_length c) q)
      go false e q = absurd (Memᴰ.not-nil q)

  -- what trial 1, and a trial that flips a set, generate are sets to flip
  pub generated_flips : (is ≡ []) ⊎ FlipSet mask (code_length c) s.w is → {x : Candidate} → Memᴰ x (generated_by s mask c v is) → FlipSet mask (code_length c) s.w x.flips
  generated_flips of {x} p =
      let g = generated-member p in
      let j : ℕ = g.1.0 in
      let e : x.flips ≡ is ++ (j ∷ []) = ap (λ (y : Candidate). y.flips) g.1.4 in
      subst (FlipSet mask (code_length c) s.w) (sym e) (record {
        flips = flips_more is j (⊎_elim (λ q. inl q) (λ q. inr q.flips) of) g.1.3 g.1.1 g.1.2;
        most = omega (arith, length-append is (j ∷ []), g.0);
      })

  pub generated-metric : {x : Candidate} → Memᴰ x (generated_by s mask c v is) → OwnMetric s mask c v x
  generated-metric {x} p =
      let g = (generated-member p).1 in
      record {
        is = is;
        j = g.0;
        flips_are = ap (λ (y : Candidate). y.flips) g.4;
        metric_is = ap (λ (y : Candidate). y.metric) g.4 ∙ ap (λ (y : Candidate). metric_of mask (leaves_of s.restart mask c v is) y.flips) (sym g.4);
      }

-- the untried sets after trial 1
pub first_flips : (s : Search) (mask : List ℕ) (c : Code) (v : List ℤ) (m : ℕ) (x : Candidate) → Memᴰ x (insert_each m (generated_by s mask c v []) []) → FlipSet mask (code_length c) s.w x.flips
first_flips s mask c v m =
    insert_each_keeps (λ x. FlipSet mask (code_length c) s.w x.flips) m (generated_by s mask c v []) []
    (λ x. generated_flips s mask c v [] (inl refl)) (λ x p. absurd (Memᴰ.not-nil p))
