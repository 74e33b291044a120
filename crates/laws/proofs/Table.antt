-- Tables: a list given by its elements.
use mathlib.Core.Path.{◌≡◌, refl, sym, ap, ◌∙◌}
use mathlib.Core.List.{List, [], ◌∷◌, ◌++◌}
use Prim.Native.Nat.{ℕ, zero, suc, ◌+◌, ◌<◌, suc-le-suc}
use native.Mathlib.Nat.{le_of_suc-le-suc, not-suc-le-zero, zero-add, suc-add}
use native.Mathlib.Omega.{arith}
use lib.ListN.{length, get_or, replicate}
use Rattle.laws.specs.Table.{table}

module _ {A : Type 0} where
  pub length-table : (f : ℕ → A) (n : ℕ) → length (table f n) ≡ n
  unfolding table
  length-table f zero = refl
  length-table f (suc n) = ap suc (length-table (λ k. f (suc k)) n)

  pub get_or-table : (f : ℕ → A) (n i : ℕ) (d : A) → i < n → get_or (table f n) i d ≡ f i
  unfolding table
  get_or-table f zero i d h = absurd (not-suc-le-zero h)
  get_or-table f (suc n) zero d h = refl
  get_or-table f (suc n) (suc i) d h = get_or-table (λ k. f (suc k)) n i d (le_of_suc-le-suc h)

  -- the last element apart
  pub table-snoc : (f : ℕ → A) (n : ℕ) → table f (suc n) ≡ table f n ++ (f n ∷ [])
  unfolding table
  table-snoc f zero = refl
  table-snoc f (suc n) = ap (λ (r : List A). f 0 ∷ r) (table-snoc (λ k. f (suc k)) n)

  -- two tables whose elements are equal
  pub table_ext : (f g : ℕ → A) (n : ℕ) → ((k : ℕ) → k < n → f k ≡ g k) → table f n ≡ table g n
  unfolding table
  table_ext f g zero h = refl
  table_ext f g (suc n) h =
      λ i. h 0 (omega arith) i ∷ table_ext (λ k. f (suc k)) (λ k. g (suc k)) n (λ k l. h (suc k) (suc-le-suc l)) i

  -- a list is the table of its elements
  pub table-get_or : (ys : List A) (d : A) → table (λ j. get_or ys j d) (length ys) ≡ ys
  unfolding table
  table-get_or [] d = refl
  table-get_or (y ∷ ys) d = ap (λ (r : List A). y ∷ r) (table-get_or ys d)

  -- a list whose elements are f 0, f 1, …
  pub table_from : (f : ℕ → A) (n : ℕ) (d : A) (xs : List A) → length xs ≡ n → ((k : ℕ) → k < n → get_or xs k d ≡ f k) → xs ≡ table f n
  table_from f n d xs len h = sym (table-get_or xs d) ∙ ap (table (λ j. get_or xs j d)) len ∙ table_ext _ f n h

  -- equal elements
  pub table-replicate : (a : A) (n : ℕ) → table (λ k. a) n ≡ replicate n a
  unfolding table
  table-replicate a zero = refl
  table-replicate a (suc n) = ap (λ (l : List A). a ∷ l) (table-replicate a n)

  -- a table in two parts
  pub table-append : (f : ℕ → A) (m n : ℕ) → table f (m + n) ≡ table f m ++ table (λ k. f (m + k)) n
  unfolding table
  table-append f zero n = ap (table f) (zero-add n) ∙ table_ext f _ n (λ k l. ap f (sym (zero-add k)))
  table-append f (suc m) n =
      ap (table f) (suc-add m n)
      ∙ ap (λ (r : List A). f 0 ∷ r) (table-append (λ k. f (suc k)) m n)
      ∙ ap (λ (r : List A). f 0 ∷ (table (λ k. f (suc k)) m ++ r)) (table_ext _ _ n (λ k l. ap f (sym (suc-add m k))))
