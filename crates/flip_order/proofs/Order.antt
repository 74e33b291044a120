-- The order of flipped indices: it is sorted, and holds exactly the information indices, each once.
use mathlib.Core.Path.{◌≡◌, sym, subst}
use mathlib.Core.Bool.{true}
use mathlib.Core.Logic.{⊎_elim}
use mathlib.Core.List.{List, [], ◌∷◌}
use Prim.Native.Nat.{ℕ}
use lib.IntN.{ℤ}
use lib.ListN.{get_or}
use Rattle.laws.specs.Insert.{sort_by}
use Rattle.laws.proofs.Permutation.{permutation_member}
use Rattle.laws.proofs.Pairs.{Pairs, none}
use Rattle.laws.proofs.Insert.{sort_permutes, insert_pairs}
use Rattle.flip_order.specs.Order.{information, before}
use Rattle.flip_order.specs.Clauses.{ordered}
use Rattle.flip_order.specs.Claims.{ListsInformation, Distinct, Sorted}
use Rattle.flip_order.proofs.Pairwise.{pairwise_of, pairwise_tail, pairwise_head}
use Rattle.flip_order.proofs.Before.{before_irrefl, before_trans, before_total}
use Rattle.flip_order.proofs.Information.{information_distinct, permuted_information}

module _ (leaves : List ℤ) where
  pairs_sorted : (is : List ℕ) → Distinct is → Pairs (λ i j. before leaves i j ≡ true) (ordered leaves is)
  unfolding sort_by
  pairs_sorted [] d = none
  pairs_sorted (i ∷ is) d =
      insert_pairs (before leaves) i (ordered leaves is)
      (λ j k m h. ⊎_elim (λ e. subst (λ (x : ℕ). before leaves i x ≡ true) (sym e) h) (before_trans leaves i j k h))
      (λ j m h. before_total leaves i j h (pairwise_head d j (permutation_member (sort_permutes (before leaves) is) m)))
      (pairs_sorted is (pairwise_tail d))

  sorted_distinct : {is : List ℕ} → Sorted leaves is → Distinct is
  sorted_distinct {is} s = record { at = λ a b l m e. before_irrefl leaves (get_or is b 0) (subst (λ (x : ℕ). before leaves x (get_or is b 0) ≡ true) e (s.at a b l m)) }

-- information indices in order
pub ordered-information : (leaves : List ℤ) (mask : List ℕ) (n : ℕ) → Sorted leaves (ordered leaves (information mask n)) × ListsInformation mask n (ordered leaves (information mask n))
ordered-information leaves mask n =
    let is : List ℕ = information mask n in
    let s : Sorted leaves (ordered leaves is) = pairwise_of (pairs_sorted leaves is (information_distinct mask n)) in
    (s, permuted_information mask n (ordered leaves is) (sort_permutes (before leaves) is) (sorted_distinct leaves s))
