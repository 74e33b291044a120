-- Searches of any two restarts try the same sets: their leaf values agree at information indices, and metrics read no others.
use mathlib.Core.Path.{◌≡◌, refl, sym, ap, ap₂, ◌∙◌, fun_ext}
use mathlib.Core.Bool.{◌&&◌, cond}
use mathlib.Core.Logic.{◌⊎◌, inl, inr, ⊎_elim}
use mathlib.Core.List.{List, [], ◌∷◌, ◌++◌, Memᴰ}
use Prim.Native.Nat.{ℕ, zero, suc, ◌+◌, ◌-◌, ◌*◌, ◌<◌, ◌≤◌}
use native.Mathlib.Omega.{arith}
use borrow.Author.Tests.{lt-ltb, le-ltb}
use lib.Dec.{ltb, leb, eqb}
use lib.IntN.{ℤ, pos, nat_abs}
use lib.ListN.{length, get_or, take, get_or-append}
use lib.Seq.{length-take-le, get_or-take, get_or-append-add}
use Rattle.laws.proofs.Indices.{lt_cases}
use Rattle.bits.specs.Mask.{mask_bit}
use Rattle.bits.proofs.Mask.{mask_cases}
use Rattle.code.specs.declared.Code.{Code}
use Rattle.code.specs.Code.{code_length}
use Rattle.values.specs.Values.{mask_rule}
use Rattle.pass_tree.proofs.Node.{length-leaves}
use Rattle.flip_order.specs.Order.{magnitude_at}
use Rattle.flip_trial.specs.declared.Restart.{Restart}
use Rattle.flip_trial.specs.declared.Restart.TheVariants.{Root}
use Rattle.flip_trial.specs.Trial.{first_trial, restart_at, later_trial}
use Rattle.flip_trial.specs.Claims.{trial_from}
use Rattle.flip_trial.specs.Flips.{Flips}
use Rattle.flip_trial.proofs.Restartable.{restartable}
use Rattle.flip_trial.proofs.Agree.{same-leaf}
use Rattle.decoder.specs.declared.Search.{Search}
use Rattle.decoder.specs.Candidate.{past_largest, magnitudes, doubtful, metric_of, Candidate, candidate, extensions, insert_each}
use Rattle.decoder.specs.Tried.{tried, flip_sets}
use Rattle.decoder.specs.Clauses.{search_of, leaves_of, generated_by, tried_by}
use Rattle.sets_tried.specs.Claims.{FlipSet}
use Rattle.sets_tried.proofs.Members.{insert_each_keeps, tests_ind, past-most, flips_more, generated_flips, first_flips}

-- ---- metrics of two lists of leaf values that agree at information indices

module _ (mask : List ℕ) (size : ℕ) (leaves leaves' : List ℤ) (agree : (j : ℕ) → j < size → mask_bit mask j ≡ 1 → magnitude_at leaves j ≡ magnitude_at leaves' j) where
  same-magnitudes : (is : List ℕ) → ((a : ℕ) → a < length is → magnitude_at leaves (get_or is a 0) ≡ magnitude_at leaves' (get_or is a 0)) → magnitudes leaves is ≡ magnitudes leaves' is
  same-magnitudes [] f = refl
  same-magnitudes (i ∷ is) f = ap₂ (λ (m n : ℕ). m + n) (f 0 (omega arith)) (same-magnitudes is (λ a l. f (suc a) (omega arith)))

  same-doubtful : (n : ℕ) → n ≤ size → doubtful mask leaves n ≡ doubtful mask leaves' n
  unfolding doubtful
  same-doubtful zero l = refl
  same-doubtful (suc n) l = ap₂ (λ (m k : ℕ). m + k) (same-doubtful n (omega arith)) (⊎_elim frozen information (mask_cases mask n))
    where
      counts : ℕ → ℕ → ℕ
      counts b m = cond (eqb b 1 && leb m 20) 1 0

      frozen : mask_bit mask n ≡ 0 → counts (mask_bit mask n) (magnitude_at leaves n) ≡ counts (mask_bit mask n) (magnitude_at leaves' n)
      frozen e = ap (λ (b : ℕ). counts b (magnitude_at leaves n)) e ∙ ap (λ (b : ℕ). counts b (magnitude_at leaves' n)) (sym e)

      information : mask_bit mask n ≡ 1 → counts (mask_bit mask n) (magnitude_at leaves n) ≡ counts (mask_bit mask n) (magnitude_at leaves' n)
      information e = ap (counts (mask_bit mask n)) (agree n l e)

  same-metric : {is : List ℕ} → Flips mask size is → metric_of mask leaves is ≡ metric_of mask leaves' is
  same-metric {is} p =
      ap₂ (λ (m k : ℕ). m + 6 * k) (same-magnitudes is (λ a l. agree (get_or is a 0) (p.below a l) (p.information a l))) (same-doubtful (past_largest is) (past-most p))

  pub same-extensions : (is : List ℕ) → (is ≡ []) ⊎ Flips mask size is → (n : ℕ) → n ≤ size → extensions mask leaves is n ≡ extensions mask leaves' is n
  unfolding extensions
  same-extensions is p zero l = refl
  same-extensions is p (suc n) l =
      ap₂ (λ (xs ys : List Candidate). xs ++ ys) (same-extensions is p n (omega arith))
      (tests_ind (λ t. cond t (candidate mask leaves (is ++ (n ∷ [])) ∷ []) [] ≡ cond t (candidate mask leaves' (is ++ (n ∷ [])) ∷ []) []) (mask_bit mask n) 1 (past_largest is) n
      (λ e past. ap (λ (m : ℕ). record { flips = is ++ (n ∷ []); metric = m } ∷ []) (same-metric (flips_more is n p past l e))) refl)

-- ---- what a trial generates, by any restart

-- below q the leaf values are trial 1's
pub kept-leaf : (q : ℕ) (xs ys : List ℤ) → q ≤ length xs → (j : ℕ) → get_or (take q xs ++ ys) j (pos 0) ≡ cond (ltb j q) (get_or xs j (pos 0)) (get_or ys (j - q) (pos 0))
kept-leaf q xs ys l j =
    let long = length-take-le q xs l in
    lt_cases j q
    (λ m. rw lt-ltb (get_or-append (take q xs) ys (pos 0) j (omega arith) ∙ get_or-take q xs j (pos 0) m))
    (λ m.
    let e : j ≡ length (take q xs) + (j - q) = omega arith in
    rw le-ltb (ap (λ (k : ℕ). get_or (take q xs ++ ys) k (pos 0)) e ∙ get_or-append-add (take q xs) ys (j - q) (pos 0)))

module _ (mask : List ℕ) (c : Code) (v : List ℤ) where
  pub length-first : length (first_trial mask c v).leaves ≡ code_length c
  length-first = omega (arith, length-leaves c.n [] (mask_rule mask) v (omega arith))

  -- at an information index the leaf value is that of the trial from the root
  pub leaf-of : (restart : Restart) (i : ℕ) (is : List ℕ) → Flips mask (code_length c) (i ∷ is) → (j : ℕ) → j < code_length c → mask_bit mask j ≡ 1 → get_or (leaves_of restart mask c v (i ∷ is)) j (pos 0) ≡ get_or (trial_from 0 mask c v (i ∷ is)).leaves j (pos 0)
  leaf-of restart i is p j l e =
      let q : ℕ = restart_at restart mask (code_length c) i in
      let on = restartable p restart in
      kept-leaf q (first_trial mask c v).leaves (later_trial restart mask c v (i ∷ is)).leaves (omega (arith, on.most, length-first)) j
      ∙ same-leaf mask c v (i ∷ is) p q on j l e

  module _ (a b : Restart) where
    same-leaves : (is : List ℕ) → (is ≡ []) ⊎ Flips mask (code_length c) is → (j : ℕ) → j < code_length c → mask_bit mask j ≡ 1 → magnitude_at (leaves_of a mask c v is) j ≡ magnitude_at (leaves_of b mask c v is) j
    same-leaves [] p j l e = refl
    same-leaves (i ∷ is) (inl z) j l e = absurd (omega (arith, ap length z))
    same-leaves (i ∷ is) (inr p) j l e = ap nat_abs (leaf-of a i is p j l e ∙ sym (leaf-of b i is p j l e))

    pub same-generated : (w limit : ℕ) (is : List ℕ) → (is ≡ []) ⊎ FlipSet mask (code_length c) w is → generated_by (search_of a w limit) mask c v is ≡ generated_by (search_of b w limit) mask c v is
    same-generated w limit is p =
        let q : (is ≡ []) ⊎ Flips mask (code_length c) is = ⊎_elim (λ e. inl e) (λ f. inr f.flips) p in
        ap (λ (xs : List Candidate). cond (ltb (length is) w) xs [])
        (same-extensions mask (code_length c) (leaves_of a mask c v is) (leaves_of b mask c v is) (same-leaves is q) is q (code_length c) (omega arith))

-- ---- the sets that are tried

-- two ways to generate that agree on sets with a property, which what is generated from them has too
module _ (P : List ℕ → Type 0) (f g : List ℕ → List Candidate) (same : (is : List ℕ) → P is → f is ≡ g is) (more : (is : List ℕ) → P is → (x : Candidate) → Memᴰ x (f is) → P x.flips) where
  same-tried : (m : ℕ) (untried : List Candidate) → ((x : Candidate) → Memᴰ x untried → P x.flips) → tried f m untried ≡ tried g m untried
  unfolding tried
  same-tried zero untried each = refl
  same-tried (suc m) [] each = refl
  same-tried (suc m) (x ∷ untried) each =
      let this : P x.flips = each x (Memᴰ.head refl) in
      ap (λ (sets : List (List ℕ)). x.flips ∷ sets)
      (same-tried m (insert_each m (f x.flips) untried)
      (insert_each_keeps (λ y. P y.flips) m (f x.flips) untried (more x.flips this) (λ y q. each y (Memᴰ.tail q)))
      ∙ ap (λ (ys : List Candidate). tried g m (insert_each m ys untried)) (same x.flips this))

pub same-sets : (a b : Restart) (w limit : ℕ) (mask : List ℕ) (c : Code) (v : List ℤ) → tried_by (search_of a w limit) mask c v ≡ tried_by (search_of b w limit) mask c v
same-sets a b w limit mask c v =
    let m : ℕ = limit - 1 in
    let s = search_of a w limit in
    same-tried (FlipSet mask (code_length c) w) (generated_by s mask c v) (generated_by (search_of b w limit) mask c v) (λ is p. same-generated mask c v a b w limit is (inr p))
    (λ is p x. generated_flips s mask c v is (inr p)) m (insert_each m (generated_by s mask c v []) []) (first_flips s mask c v m)
    ∙ ap (λ (ys : List Candidate). tried (generated_by (search_of b w limit) mask c v) m (insert_each m ys [])) (same-generated mask c v a b w limit [] (inl refl))

-- ---- the sets of whole trials

-- a trial from the root has leaf values of its own only
whole-leaves : (mask : List ℕ) (c : Code) (v : List ℤ) (is : List ℕ) → leaves_of Root mask c v is ≡ (later_trial Root mask c v is).leaves
whole-leaves mask c v [] = refl
whole-leaves mask c v (i ∷ is) = refl

-- a search of any restart tries the sets of the definition
pub tried-by : (s : Search) (mask : List ℕ) (c : Code) (v : List ℤ) → tried_by s mask c v ≡ flip_sets s.w s.limit mask c v
tried-by s mask c v =
    let m : ℕ = s.limit - 1 in
    same-sets s.restart Root s.w s.limit mask c v
    ∙ ap
    (λ (leaves : List ℕ → List ℤ).
    let generate : List ℕ → List Candidate = λ is. cond (ltb (length is) s.w) (extensions mask (leaves is) is (code_length c)) [] in
    tried generate m (insert_each m (generate []) []))
    (fun_ext (whole-leaves mask c v))
