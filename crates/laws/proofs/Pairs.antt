-- Lists in which each element is related to every later one.
use mathlib.Core.Path.{refl, sym, subst}
use mathlib.Core.Logic.{⊎_elim}
use mathlib.Core.List.Memᴰ
use mathlib.Core.List.{List, [], ◌∷◌, ◌++◌, Memᴰ}
use Prim.Native.Nat.{ℕ, zero, suc}
use lib.ListN.{take}

pub data Pairs {A : Type 0} (R : A → A → Type 0) : List A → Type 0 where
  none : Pairs R []
  one : {x : A} {xs : List A} → ((y : A) → Memᴰ y xs → R x y) → Pairs R xs → Pairs R (x ∷ xs)

pub take-member : {A : Type 0} (m : ℕ) (xs : List A) {z : A} → Memᴰ z (take m xs) → Memᴰ z xs
take-member zero xs p = absurd (Memᴰ.not-nil p)
take-member (suc m) [] p = p
take-member (suc m) (x ∷ xs) p =
    ⊎_elim (λ e. Memᴰ.head e) (λ q. Memᴰ.tail (take-member m xs q)) (Memᴰ.cases_cons p)

module _ {A : Type 0} {R : A → A → Type 0} where
  pub pairs_head : {x : A} {xs : List A} → Pairs R (x ∷ xs) → (y : A) → Memᴰ y xs → R x y
  pairs_head (one f p) = f

  pub pairs_tail : {x : A} {xs : List A} → Pairs R (x ∷ xs) → Pairs R xs
  pairs_tail (one f p) = p

  pub pairs_take : (m : ℕ) (xs : List A) → Pairs R xs → Pairs R (take m xs)
  pairs_take zero xs p = none
  pairs_take (suc m) [] p = none
  pairs_take (suc m) (x ∷ xs) p = one (λ y q. pairs_head p y (take-member m xs q)) (pairs_take m xs (pairs_tail p))

  -- one more at the end
  pub pairs_snoc : (xs : List A) (x : A) → ((y : A) → Memᴰ y xs → R y x) → Pairs R xs → Pairs R (xs ++ (x ∷ []))
  pairs_snoc [] x f p = one (λ y q. absurd (Memᴰ.not-nil q)) none
  pairs_snoc (y ∷ ys) x f p =
      one (λ z q. ⊎_elim (pairs_head p z) (λ r. subst (R y) (sym (Memᴰ.eq_of_singleton r)) (f y (Memᴰ.head refl))) (Memᴰ.append_cases ys q))
      (pairs_snoc ys x (λ z q. f z (Memᴰ.tail q)) (pairs_tail p))
