-- With w = 1 the sets that are tried are the information indices, each alone, sorted by metric and then by index.
use mathlib.Core.Path.{◌≡◌, refl, sym, ap, ◌∙◌, subst}
use mathlib.Core.Bool.{Bool, true, false, ◌&&◌, ◌||◌, cond, true≢false}
use mathlib.Core.Logic.{inl, inr, ⊎_elim}
use mathlib.Core.List.Memᴰ
use mathlib.Core.List.Permᴰ
use mathlib.Core.List.{List, [], ◌∷◌, ◌++◌, map, append-nil, Memᴰ, Permᴰ}
use Prim.Native.Nat.{ℕ, zero, suc, ◌-◌, ◌<◌, ◌≤◌}
use native.Mathlib.Omega.{arith}
use borrow.Author.Tests.{ltb-false}
use lib.Dec.{ltb, leb, eqb, leb-zero}
use lib.IntN.{ℤ}
use lib.ListN.{take}
use Rattle.laws.specs.Insert.{insert_by}
use Rattle.laws.proofs.Choice.{or_false}
use Rattle.laws.proofs.Indices.{lt_cases}
use Rattle.laws.proofs.Permutation.{permutation_member}
use Rattle.laws.proofs.Insert.{insert_cases}
use Rattle.laws.proofs.Earlier.{first_by-of}
use Rattle.bits.specs.Mask.{mask_bit}
use Rattle.code.specs.declared.Code.{Code}
use Rattle.code.specs.Code.{code_length}
use Rattle.flip_order.specs.Order.{information}
use Rattle.flip_order.specs.Claims.{Pairwise, Distinct}
use Rattle.flip_order.proofs.Pairwise.{pairwise_nil, pairwise_cons, pairwise_tail, pairwise_head}
use Rattle.flip_order.proofs.Information.{member-information, permuted_information}
use Rattle.flip_trial.specs.Trial.{first_trial}
use Rattle.decoder.specs.Candidate.{metric_of, Candidate, candidate, extensions, precedes}
use Rattle.decoder.specs.Clauses.{search_of, generated_by}
use Rattle.sets_tried.specs.Claims.{insert_all, tried_of_all, MetricFirst, Singles}
use Rattle.sets_tried.proofs.Kept.{kept_loses_nothing}

insert_all-snoc : (xs : List Candidate) (x : Candidate) (ys : List Candidate) → insert_all (xs ++ (x ∷ [])) ys ≡ insert_by precedes x (insert_all xs ys)
unfolding insert_all
insert_all-snoc [] x ys = refl
insert_all-snoc (z ∷ xs) x ys = insert_all-snoc xs x (insert_by precedes z ys)

module _ (mask : List ℕ) (leaves : List ℤ) where
  abbrev single : ℕ → Candidate
  single i = candidate mask leaves (i ∷ [])

  abbrev metric : ℕ → ℕ
  metric i = metric_of mask leaves (i ∷ [])

  -- ---- the order of single indices

  first_trans : (i j k : ℕ) → MetricFirst mask leaves i j → MetricFirst mask leaves j k → MetricFirst mask leaves i k
  first_trans i j k p q =
      ⊎_elim (λ l. ⊎_elim (λ m. inl (omega arith)) (λ m. inl (omega arith)) q) (λ l. ⊎_elim (λ m. inl (omega arith)) (λ m. inr (omega arith)) q) p

  before-first : (i j : ℕ) → precedes (single i) (single j) ≡ true → MetricFirst mask leaves i j
  before-first i j h =
      ⊎_elim (λ l. inl l)
      (λ p. inr (p.0, ⊎_elim (λ l. l) (λ q. absurd (true≢false (sym q.1))) (first_by-of i j false p.1)))
      (first_by-of (metric i) (metric j) (ltb i j || (eqb i j && false)) h)

  after_first : (i j : ℕ) → j < i → precedes (single i) (single j) ≡ false → MetricFirst mask leaves j i
  after_first i j l e =
      let m : metric j ≤ metric i = ltb-false _ _ (or_false (ltb (metric i) (metric j)) _ e).0 in
      lt_cases (metric j) (metric i) (λ k. inl k) (λ k. inr (omega arith))

  -- an index above the others is inserted
  insert_single : (i : ℕ) (js : List ℕ) → ((j : ℕ) → Memᴰ j js → j < i) → Pairwise (MetricFirst mask leaves) js → (ks : List ℕ) × (insert_by precedes (single i) (map single js) ≡ map single ks) × Permᴰ ks (i ∷ js) × Pairwise (MetricFirst mask leaves) ks
  unfolding insert_by
  insert_single i [] above s = (i ∷ [], refl, Permᴰ.refl (i ∷ []), pairwise_cons (λ k m. absurd (Memᴰ.not-nil m)) s)
  insert_single i (j ∷ js) above s =
      let r = insert_single i js (λ k m. above k (Memᴰ.tail m)) (pairwise_tail s) in
      insert_cases precedes (λ xs. (ks : List ℕ) × (xs ≡ map single ks) × Permᴰ ks (i ∷ j ∷ js) × Pairwise (MetricFirst mask leaves) ks) (single i) (single j) (map single js)
      (λ h. (
        i ∷ j ∷ js,
        refl,
        Permᴰ.refl (i ∷ j ∷ js),
        pairwise_cons
            (λ k m. ⊎_elim (λ e. subst (MetricFirst mask leaves i) (sym e) (before-first i j h)) (λ t. first_trans i j k (before-first i j h) (pairwise_head s k t)) (Memᴰ.cases_cons m)) s,
      ))
      (λ h. (
        j ∷ r.0,
        ap (λ (xs : List Candidate). single j ∷ xs) r.1,
        Permᴰ.trans (Permᴰ.cons refl r.2) (Permᴰ.swap refl refl),
        pairwise_cons
            (λ k m. ⊎_elim (λ e. subst (MetricFirst mask leaves j) (sym e) (after_first i j (above j (Memᴰ.head refl)) h)) (pairwise_head s k) (Memᴰ.cases_cons (permutation_member r.2 m))) r.3,
      ))

  -- ---- all of them, inserted in turn

  sorted_singles : (n : ℕ) → (ks : List ℕ) × (insert_all (extensions mask leaves [] n) [] ≡ map single ks) × Permᴰ ks (information mask n) × Pairwise (MetricFirst mask leaves) ks
  unfolding insert_all extensions information
  sorted_singles zero = ([], refl, Permᴰ.nil, pairwise_nil)
  sorted_singles (suc n) = go (eqb (mask_bit mask n) 1) (sorted_singles n)
    where
      es : List Candidate
      es = extensions mask leaves [] n

      is : List ℕ
      is = information mask n

      go : (t : Bool)
          → (ks : List ℕ) × (insert_all es [] ≡ map single ks) × Permᴰ ks is × Pairwise (MetricFirst mask leaves) ks
          → (ks : List ℕ) × (insert_all (es ++ cond (t && leb 0 n) (single n ∷ []) []) [] ≡ map single ks) × Permᴰ ks (is ++ cond t (n ∷ []) []) × Pairwise (MetricFirst mask leaves) ks
      go true r =
          let s = insert_single n r.0 (λ k m. (member-information mask n k (permutation_member r.2 m)).0) r.3 in (
            s.0,
            ap (λ (u : Bool). insert_all (es ++ cond u (single n ∷ []) []) []) (leb-zero n) ∙ insert_all-snoc es (single n) [] ∙ ap (insert_by precedes (single n)) r.1 ∙ s.1,
            Permᴰ.trans (Permᴰ.trans s.2 (Permᴰ.cons refl r.2)) (Permᴰ.symm (Permᴰ.trans (Permᴰ.middle n is []) (Permᴰ.cons refl (Permᴰ.append-nil is)))),
            s.3,
          )
      go false r = (
        r.0,
        ap (λ (xs : List Candidate). insert_all xs []) (append-nil es) ∙ r.1,
        Permᴰ.trans r.2 (Permᴰ.symm (Permᴰ.append-nil is)),
        r.3,
      )

  first_distinct : (is : List ℕ) → Pairwise (MetricFirst mask leaves) is → Distinct is
  first_distinct is p = record { at = λ a b l m e. ⊎_elim (λ k. omega (arith, ap metric e)) (λ k. omega arith) (p.at a b l m) }

  -- a single index generates nothing: they are tried as they stand
  tried-singles : (generate : List ℕ → List Candidate) → ((i : ℕ) → generate (i ∷ []) ≡ []) → (m : ℕ) (is : List ℕ) → tried_of_all generate m (map single is) ≡ map (λ i. i ∷ []) (take m is)
  unfolding tried_of_all insert_all
  tried-singles generate none zero is = refl
  tried-singles generate none (suc m) [] = refl
  tried-singles generate none (suc m) (i ∷ is) =
      ap (λ (sets : List (List ℕ)). (i ∷ []) ∷ sets)
      (ap (λ (xs : List Candidate). tried_of_all generate m (insert_all xs (map single is))) (none i) ∙ tried-singles generate none m is)

pub singles : (mask : List ℕ) (c : Code) (v : List ℤ) → Singles mask c v
singles mask c v =
    let leaves : List ℤ = (first_trial mask c v).leaves in
    let r = sorted_singles mask leaves (code_length c) in
    record {
      is = r.0;
      sets_are = λ restart limit.
          kept_loses_nothing (search_of restart 1 limit) mask c v
          ∙ ap (tried_of_all (generated_by (search_of restart 1 limit) mask c v) (limit - 1)) r.1
          ∙ tried-singles mask leaves (generated_by (search_of restart 1 limit) mask c v) (λ i. refl) (limit - 1) r.0;
      lists = permuted_information mask (code_length c) r.0 r.2 (first_distinct mask leaves r.0 r.3);
      sorted = r.3;
    }
