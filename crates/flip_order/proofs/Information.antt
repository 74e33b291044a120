-- The list of information indices: exactly these, ascending, each once.
use mathlib.Core.Path.{◌≡◌, refl, sym, ap, ◌∙◌, subst}
use mathlib.Core.Bool.{cond}
use mathlib.Core.Logic.{⊎_elim}
use mathlib.Core.List.Memᴰ
use mathlib.Core.List.Permᴰ
use mathlib.Core.List.{List, [], ◌∷◌, ◌++◌, append-nil, Memᴰ, Permᴰ}
use Prim.Native.Nat.{ℕ, zero, suc, ◌+◌}
use native.Mathlib.Omega.{arith}
use lib.Dec.{eqb}
use lib.ListN.{length, get_or, length-append}
use Rattle.bits.specs.Mask.{mask_bit, ones_below}
use Rattle.bits.proofs.Mask.{mask_cases}
use Rattle.laws.proofs.Indices.{lt_cases, member-at}
use Rattle.flip_order.specs.Order.{information}
use Rattle.flip_order.specs.Claims.{ListsInformation, Information, Distinct, Ascending}
use Rattle.flip_order.proofs.Pairwise.{place_of, pairwise_nil, pairwise_snoc}
use Rattle.laws.proofs.Permutation.{permutation_member, permutation_length}

module _ (mask : List ℕ) where
  information_one : (n : ℕ) → mask_bit mask n ≡ 1 → information mask (suc n) ≡ information mask n ++ (n ∷ [])
  unfolding information
  information_one n e = ap (λ (b : ℕ). information mask n ++ cond (eqb b 1) (n ∷ []) []) e

  information-none : (n : ℕ) → mask_bit mask n ≡ 0 → information mask (suc n) ≡ information mask n
  unfolding information
  information-none n e = ap (λ (b : ℕ). information mask n ++ cond (eqb b 1) (n ∷ []) []) e ∙ append-nil (information mask n)

  -- one index more
  information_cases : (P : List ℕ → Type 0) (n : ℕ) → (mask_bit mask n ≡ 0 → P (information mask n)) → (mask_bit mask n ≡ 1 → P (information mask n ++ (n ∷ []))) → P (information mask (suc n))
  information_cases P n f g =
      ⊎_elim (λ e. subst P (sym (information-none n e)) (f e)) (λ e. subst P (sym (information_one n e)) (g e)) (mask_cases mask n)

  pub member-information : (n i : ℕ) → Memᴰ i (information mask n) → Information mask n i
  unfolding information
  member-information zero i m = absurd (Memᴰ.not-nil m)
  member-information (suc n) i m =
      information_cases (λ is. Memᴰ i is → Information mask (suc n) i) n (λ _ t. later (member-information n i t))
      (λ e t. ⊎_elim (λ u. later (member-information n i u)) (λ u. here e (Memᴰ.eq_of_singleton u)) (Memᴰ.append_cases (information mask n) t)) m
    where
      later : Information mask n i → Information mask (suc n) i
      later p = (omega arith, p.1)

      here : mask_bit mask n ≡ 1 → i ≡ n → Information mask (suc n) i
      here e q = (omega arith, ap (mask_bit mask) q ∙ e)

  information-member : (n i : ℕ) → Information mask n i → Memᴰ i (information mask n)
  unfolding information
  information-member zero i p = absurd (omega arith)
  information-member (suc n) i p =
      lt_cases i n (λ l. information_cases (Memᴰ i) n (λ _. information-member n i (l, p.1)) (λ _. Memᴰ.append_left (n ∷ []) (information-member n i (l, p.1))))
      (λ c. let q : i ≡ n = omega arith in information_cases (Memᴰ i) n (λ z. absurd (omega (arith, ap (mask_bit mask) q, p.1))) (λ _. Memᴰ.append_right (information mask n) (Memᴰ.head q)))

  information_ascending : (n : ℕ) → Ascending (information mask n)
  unfolding information
  information_ascending zero = pairwise_nil
  information_ascending (suc n) =
      information_cases Ascending n (λ _. information_ascending n)
      (λ _. pairwise_snoc (information mask n) n (λ j m. (member-information n j m).0) (information_ascending n))

  length-information : (n : ℕ) → length (information mask n) ≡ ones_below mask n
  unfolding information ones_below
  length-information zero = refl
  length-information (suc n) =
      information_cases (λ is. length is ≡ ones_below mask n + mask_bit mask n) n (λ e. omega (arith, length-information n))
      (λ e. omega (arith, length-information n, length-append (information mask n) (n ∷ [])))

  pub information_distinct : (n : ℕ) → Distinct (information mask n)
  information_distinct n = record { at = λ a b l m e. omega (arith, (information_ascending n).at a b l m) }

  -- a list without repeats that is a permutation of them
  pub permuted_information : (n : ℕ) (is : List ℕ) → Permᴰ is (information mask n) → Distinct is → ListsInformation mask n is
  permuted_information n is p d = record {
    each = λ a l. member-information n (get_or is a 0) (permutation_member p (member-at 0 is a l));
    all = λ i q. place_of (permutation_member (Permᴰ.symm p) (information-member n i q));
    once = d;
    many = permutation_length p ∙ length-information n;
  }
