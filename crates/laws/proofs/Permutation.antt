-- A permutation has the same members and the same length.
use mathlib.Core.Path.{◌≡◌, refl, ap, ◌∙◌}
use mathlib.Core.Logic.{⊎_elim}
use mathlib.Core.List.Memᴰ
use mathlib.Core.List.{List, Memᴰ, Permᴰ}
use Prim.Native.Nat.{suc}
use lib.ListN.{length}

module _ {A : Type 0} where
  pub permutation_member : {a : A} {xs ys : List A} → Permᴰ xs ys → Memᴰ a xs → Memᴰ a ys
  permutation_member Permᴰ.nil m = m
  permutation_member (Permᴰ.cons e p) m =
      ⊎_elim (λ q. Memᴰ.head (q ∙ e)) (λ t. Memᴰ.tail (permutation_member p t)) (Memᴰ.cases_cons m)
  permutation_member (Permᴰ.swap e e') m =
      ⊎_elim (λ q. Memᴰ.tail (Memᴰ.head (q ∙ e)))
      (λ t. ⊎_elim (λ q. Memᴰ.head (q ∙ e')) (λ u. Memᴰ.tail (Memᴰ.tail u)) (Memᴰ.cases_cons t))
      (Memᴰ.cases_cons m)
  permutation_member (Permᴰ.trans p q) m = permutation_member q (permutation_member p m)

  pub permutation_length : {xs ys : List A} → Permᴰ xs ys → length xs ≡ length ys
  permutation_length Permᴰ.nil = refl
  permutation_length (Permᴰ.cons e p) = ap suc (permutation_length p)
  permutation_length (Permᴰ.swap e e') = refl
  permutation_length (Permᴰ.trans p q) = permutation_length p ∙ permutation_length q
