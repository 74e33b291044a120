-- A property of each element, and of the default of `get_or`, holds of each element of lists that are made of lists with this property.
use mathlib.Core.Path.{subst, sym}
use mathlib.Core.List.{List, [], ◌∷◌, ◌++◌}
use Prim.Native.Nat.{ℕ, zero, suc, ◌+◌}
use lib.ListN.{get_or, take, drop}
use lib.Seq.{get_or-drop}
use Rattle.laws.specs.Table.{table}

module _ {A : Type 0} (P : A → Type 0) (d : A) where
  abbrev pub Each : List A → Type 0
  Each xs = (i : ℕ) → P (get_or xs i d)

  pub each_append : (xs ys : List A) → Each xs → Each ys → Each (xs ++ ys)
  each_append [] ys p q i = q i
  each_append (x ∷ xs) ys p q zero = p 0
  each_append (x ∷ xs) ys p q (suc i) = each_append xs ys (λ j. p (suc j)) q i

  pub each_take : P d → (n : ℕ) (xs : List A) → Each xs → Each (take n xs)
  each_take past zero xs p i = past
  each_take past (suc n) [] p i = past
  each_take past (suc n) (x ∷ xs) p zero = p 0
  each_take past (suc n) (x ∷ xs) p (suc i) = each_take past n xs (λ j. p (suc j)) i

  pub each-drop : (n : ℕ) (xs : List A) → Each xs → Each (drop n xs)
  each-drop n xs p i = subst P (sym (get_or-drop n xs i d)) (p (n + i))

  pub each-table : P d → (f : ℕ → A) (n : ℕ) → ((i : ℕ) → P (f i)) → Each (table f n)
  unfolding table
  each-table past f zero h i = past
  each-table past f (suc n) h zero = h 0
  each-table past f (suc n) h (suc i) = each-table past (λ j. f (suc j)) n (λ j. h (suc j)) i
