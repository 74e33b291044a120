-- The first index at which a test holds.
use mathlib.Core.Path.{◌≡◌, refl, sym, ap, ◌∙◌}
use mathlib.Core.Bool.{Bool, true, false, cond}
use mathlib.Core.List.{List}
use Prim.Native.Nat.{ℕ, zero, suc, ◌≤◌, ◌<◌, suc-le-suc}
use native.Mathlib.Nat.{le_of_suc-le-suc}
use native.Mathlib.Omega.{arith}
use lib.Ieee.Bits.{is_true, is_false}
use lib.ListN.{length, get_or}
use Rattle.std.specs.List.{AllWithin, HoldsAt}
use Rattle.std.proofs.Common.{Option, MatchOption}
use Rattle.std.specs.Option.{unwrap_or}
use Rattle.std.proofs.lemmas.Iterator.{index_from_first}
use Rattle.laws.specs.First.{first_where}
use Rattle.laws.proofs.Choice.{cond_ind}

-- the test fails below i, and holds at i unless that is the end
pub first-is : (test : ℕ → Bool) (n i : ℕ) → i ≤ n → ((k : ℕ) → k < i → test k ≡ false) → (i < n → test i ≡ true) → first_where test n ≡ i
unfolding first_where
first-is test zero zero l below here = refl
first-is test zero (suc i) l below here = absurd (omega arith)
first-is test (suc n) zero l below here =
    ap (λ (t : Bool). cond t 0 (suc (first_where (λ i. test (suc i)) n))) (here (omega arith))
first-is test (suc n) (suc i) l below here =
    ap (λ (t : Bool). cond t 0 (suc (first_where (λ i. test (suc i)) n))) (below 0 (omega arith))
    ∙ ap suc (first-is (λ i. test (suc i)) n i (le_of_suc-le-suc l) (λ k h. below (suc k) (suc-le-suc h)) (λ h. here (suc-le-suc h)))

pub first_le : (test : ℕ → Bool) (n : ℕ) → first_where test n ≤ n
unfolding first_where
first_le test zero = omega arith
first_le test (suc n) =
    let rest = first_le (λ i. test (suc i)) n in
    cond_ind (λ (i : ℕ). i ≤ suc n) (test 0) 0 (suc (first_where (λ i. test (suc i)) n)) (λ _. omega arith) (λ _. omega arith)

-- before it the test fails
pub first-before : (test : ℕ → Bool) (n k : ℕ) → k < first_where test n → test k ≡ false
unfolding first_where
first-before test zero k l = absurd (omega arith)
first-before test (suc n) zero l =
    cond_ind (λ (i : ℕ). 0 < i → test 0 ≡ false) (test 0) 0 (suc (first_where (λ i. test (suc i)) n))
    (λ t h. absurd (omega arith)) (λ t h. is_false (test 0) t) l
first-before test (suc n) (suc k) l =
    cond_ind (λ (i : ℕ). suc k < i → test (suc k) ≡ false) (test 0) 0 (suc (first_where (λ i. test (suc i)) n))
    (λ t h. absurd (omega arith)) (λ t h. first-before (λ i. test (suc i)) n k (le_of_suc-le-suc h)) l

-- at it the test holds, unless there is none
pub first_holds : (test : ℕ → Bool) (n : ℕ) → first_where test n < n → test (first_where test n) ≡ true
unfolding first_where
first_holds test zero l = absurd (omega arith)
first_holds test (suc n) l =
    cond_ind (λ (i : ℕ). i < suc n → test i ≡ true) (test 0) 0 (suc (first_where (λ i. test (suc i)) n)) (λ t h. is_true (test 0) t)
    (λ t h. first_holds (λ i. test (suc i)) n (le_of_suc-le-suc h)) l

-- what `position` finds in a list, or else the list's length
module _ {X : Type 0} (test : X → Bool) (d : X) where
  abbrev first_of : List X → ℕ
  first_of xs = first_where (λ i. test (get_or xs i d)) (length xs)

  abbrev Passes : X → Type 0
  Passes x = test x ≡ true

  abbrev Fails : X → Type 0
  Fails x = test x ≡ false

  pub position_first : (xs : List X) (found : Option ℕ) →
      MatchOption found (AllWithin Fails xs 0 (length xs)) (λ i. (i < length xs) × HoldsAt Passes xs i × AllWithin Fails xs 0 i) →
      unwrap_or found (length xs) ≡ first_of xs
  unfolding first_where
  position_first xs found is_first =
      sym (index_from_first first_of Passes Fails refl (λ x xs e. ap (λ (t : Bool). cond t 0 (suc (first_of xs))) e) (λ x xs e. ap (λ (t : Bool). cond t 0 (suc (first_of xs))) e ∙ omega arith) xs found is_first)
