-- Zeros after the end of a list.
use mathlib.Core.Path.{◌≡◌, refl, sym, ap, ◌∙◌}
use mathlib.Core.Bool.{true}
use mathlib.Core.List.{List, [], ◌∷◌, ◌++◌}
use Prim.Native.Nat.{ℕ, zero, suc, ◌+◌, ◌-◌, ◌≤◌}
use native.Mathlib.Omega.{arith}
use borrow.Author.Tests.{eqb-true}
use lib.Dec.{eqb}
use lib.ListN.{length, take, drop, replicate, length-append, length-drop, length-replicate}
use lib.Seq.{take_at, drop_at, drop-drop}
use Rattle.laws.specs.Clauses.{splice}
use Rattle.laws.proofs.Choice.{and_true}
use Rattle.arrays.specs.Padded.{padded, all_zero}

-- ---- lists that are all zero

pub drop-replicate : {A : Type 0} (n m : ℕ) (a : A) → drop n (replicate m a) ≡ replicate (m - n) a
drop-replicate zero m a = let e : m ≡ m - 0 = omega arith in ap (λ (k : ℕ). replicate k a) e
drop-replicate (suc n) zero a = let e : 0 ≡ 0 - suc n = omega arith in ap (λ (k : ℕ). replicate k a) e
drop-replicate (suc n) (suc m) a =
    let e : m - n ≡ suc m - suc n = omega arith in drop-replicate n m a ∙ ap (λ (k : ℕ). replicate k a) e

pub zeros_are : (xs : List ℕ) → all_zero xs ≡ true → xs ≡ replicate (length xs) 0
unfolding all_zero
zeros_are [] e = refl
zeros_are (x ∷ xs) e =
    let p = and_true (eqb x 0) (all_zero xs) e in
    λ i. eqb-true x 0 p.0 i ∷ zeros_are xs p.1 i

pub are_zeros : (n : ℕ) → all_zero (replicate n 0) ≡ true
unfolding all_zero
are_zeros zero = refl
are_zeros (suc n) = are_zeros n

-- zeros from one place on are zeros from every later one on
pub zeros-past : (w : List ℕ) (from at : ℕ) → from ≤ at → all_zero (drop from w) ≡ true → drop at w ≡ replicate (length w - at) 0
zeros-past w from at l e =
    let q : from + (at - from) ≡ at = omega arith in
    let left : length (drop from w) - (at - from) ≡ length w - at = omega (arith, length-drop from w) in
    ap (λ (k : ℕ). drop k w) (sym q) ∙ sym (drop-drop (at - from) from w) ∙ ap (drop (at - from)) (zeros_are (drop from w) e)
    ∙ drop-replicate (at - from) (length (drop from w)) 0 ∙ ap (λ (k : ℕ). replicate k 0) left

-- ---- lists with zeros after them

module _ (size : ℕ) (bytes : List ℕ) (fits : length bytes ≤ size) where
  pub length-padded : length (padded size bytes) ≡ size
  length-padded = omega (arith, length-append bytes (replicate (size - length bytes) 0), length-replicate {A = ℕ} (size - length bytes) 0)

  pub take-padded : take (length bytes) (padded size bytes) ≡ bytes
  take-padded = take_at bytes (replicate (size - length bytes) 0) (length bytes) refl

  pub drop-padded : drop (length bytes) (padded size bytes) ≡ replicate (size - length bytes) 0
  drop-padded = drop_at bytes (replicate (size - length bytes) 0) (length bytes) refl

-- bytes put at the beginning of an array that is zero after them
pub splice-padded : (size : ℕ) (w bytes : List ℕ) → drop (length bytes) w ≡ replicate (size - length bytes) 0 → splice w 0 bytes ≡ padded size bytes
unfolding splice
splice-padded size w bytes e =
    let z : 0 + length bytes ≡ length bytes = omega arith in
    ap (λ (k : ℕ). bytes ++ drop k w) z ∙ ap (λ (l : List ℕ). bytes ++ l) e
