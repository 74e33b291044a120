-- An element inserted among others by an order: what the list then holds, which elements stand first, and that it stays in order.
use mathlib.Core.Path.{◌≡◌, refl, sym, ap, subst}
use mathlib.Core.Bool.{Bool, true, false, cond}
use mathlib.Core.Logic.{◌⊎◌, inl, inr, ⊎_elim}
use mathlib.Core.List.Memᴰ
use mathlib.Core.List.Permᴰ
use mathlib.Core.List.{List, [], ◌∷◌, Memᴰ, Permᴰ}
use Prim.Native.Nat.{ℕ, zero, suc}
use native.Mathlib.Omega.{arith}
use lib.ListN.{length, take}
use lib.Seq.{take-take}
use Rattle.laws.specs.Insert.{insert_by, sort_by}
use Rattle.laws.proofs.Permutation.{permutation_member, permutation_length}
use Rattle.laws.proofs.Pairs.{Pairs, none, one, pairs_head, pairs_tail}

module _ {A : Type 0} (before : A → A → Bool) where
  -- x stands before y, or after it
  pub insert_cases : (P : List A → Type 0) (x y : A) (ys : List A) → (before x y ≡ true → P (x ∷ y ∷ ys)) → (before x y ≡ false → P (y ∷ insert_by before x ys)) → P (insert_by before x (y ∷ ys))
  unfolding insert_by
  insert_cases P x y ys f g = go (before x y) f g
    where
      go : (t : Bool) → (t ≡ true → P (x ∷ y ∷ ys)) → (t ≡ false → P (y ∷ insert_by before x ys)) → P (cond t (x ∷ y ∷ ys) (y ∷ insert_by before x ys))
      go true f g = f refl
      go false f g = g refl

  -- ---- what the list holds

  insert_permutes : (x : A) (ys : List A) → Permᴰ (insert_by before x ys) (x ∷ ys)
  unfolding insert_by
  insert_permutes x [] = Permᴰ.refl (x ∷ [])
  insert_permutes x (y ∷ ys) =
      insert_cases (λ zs. Permᴰ zs (x ∷ y ∷ ys)) x y ys (λ _. Permᴰ.refl (x ∷ y ∷ ys))
      (λ _. Permᴰ.trans (Permᴰ.cons refl (insert_permutes x ys)) (Permᴰ.swap refl refl))

  pub sort_permutes : (xs : List A) → Permᴰ (sort_by before xs) xs
  unfolding sort_by
  sort_permutes [] = Permᴰ.nil
  sort_permutes (x ∷ xs) = Permᴰ.trans (insert_permutes x (sort_by before xs)) (Permᴰ.cons refl (sort_permutes xs))

  pub length_insert : (x : A) (ys : List A) → length (insert_by before x ys) ≡ suc (length ys)
  length_insert x ys = permutation_length (insert_permutes x ys)

  pub insert_member : (x : A) (ys : List A) {z : A} → Memᴰ z (insert_by before x ys) → (z ≡ x) ⊎ Memᴰ z ys
  insert_member x ys p = Memᴰ.cases_cons (permutation_member (insert_permutes x ys) p)

  pub member_insert : (x : A) (ys : List A) {z : A} → Memᴰ z (x ∷ ys) → Memᴰ z (insert_by before x ys)
  member_insert x ys p = permutation_member (Permᴰ.symm (insert_permutes x ys)) p

  -- ---- the first m

  take-cons : (m : ℕ) (y : A) (ys : List A) → take m (y ∷ take m ys) ≡ take m (y ∷ ys)
  take-cons zero y ys = refl
  take-cons (suc m) y ys = ap (λ (zs : List A). y ∷ zs) (take-take m (suc m) ys (omega arith))

  -- what stands past the first m does not come among them
  pub take_insert : (m : ℕ) (x : A) (ys : List A) → take m (insert_by before x (take m ys)) ≡ take m (insert_by before x ys)
  unfolding insert_by
  take_insert zero x ys = refl
  take_insert (suc m) x [] = refl
  take_insert (suc m) x (y ∷ ys) = go (before x y) (take_insert m x ys)
    where
      go : (t : Bool) → take m (insert_by before x (take m ys)) ≡ take m (insert_by before x ys) → take (suc m) (cond t (x ∷ y ∷ take m ys) (y ∷ insert_by before x (take m ys))) ≡ take (suc m) (cond t (x ∷ y ∷ ys) (y ∷ insert_by before x ys))
      go true e = ap (λ (zs : List A). x ∷ zs) (take-cons m y ys)
      go false e = ap (λ (zs : List A). y ∷ zs) e

  -- ---- in order

  -- x is related to all that it comes before, and all others to x
  pub insert_pairs : {R : A → A → Type 0} (x : A) (ys : List A) → ((y z : A) → Memᴰ z ys → before x y ≡ true → (z ≡ y) ⊎ R y z → R x z) → ((y : A) → Memᴰ y ys → before x y ≡ false → R y x) → Pairs R ys → Pairs R (insert_by before x ys)
  unfolding insert_by
  insert_pairs x [] f g p = one (λ y q. absurd (Memᴰ.not-nil q)) none
  insert_pairs {R} x (y ∷ ys) f g p =
      insert_cases (Pairs R) x y ys
      (λ b. one (λ z q. f y z q b (⊎_elim inl (λ t. inr (pairs_head p z t)) (Memᴰ.cases_cons q))) p)
      (λ b. one (λ z q. ⊎_elim (λ e. subst (R y) (sym e) (g y (Memᴰ.head refl) b)) (pairs_head p z) (insert_member x ys q))
      (insert_pairs x ys (λ u z q. f u z (Memᴰ.tail q)) (λ z q. g z (Memᴰ.tail q)) (pairs_tail p)))
