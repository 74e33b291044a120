-- The least of the keys above the last one: none of them is less, and it is one of them unless there is none.
use mathlib.Core.Path.{◌≡◌, refl, ap, ap₂, ◌∙◌}
use mathlib.Core.Bool.{Bool, true, false, cond}
use mathlib.Core.List.{List}
use Prim.Native.Nat.{ℕ, zero, suc, ◌<◌, ◌≤◌}
use native.Mathlib.Omega.{arith}
use borrow.Author.Tests.{lt-ltb, le-ltb}
use lib.IntN.{ℤ, pos, negsuc}
use lib.ListN.{get_or}
use lib.Signed.{lt_z}
use Rattle.laws.proofs.Indices.{lt_cases}
use Rattle.flip_order.specs.Clauses.{no_key, above, lesser, least_above}

-- the keys above the last one are those from `from` on
pub record From (last : ℤ) (from : ℕ) : Type 0 where
  pub yes : (k : ℕ) → from ≤ k → lt_z last (pos k) ≡ true
  pub no : (k : ℕ) → k < from → lt_z last (pos k) ≡ false

pub from_none : From (negsuc 0) 0
from_none = record { yes = λ k l. refl; no = λ k l. absurd (omega arith) }

pub from_key : (k : ℕ) → From (pos k) (suc k)
from_key k = record { yes = λ j l. lt-ltb k j l; no = λ j l. le-ltb k j (omega arith) }

-- the least of f 0, …, f (n - 1) that are from `from` on, or none
pub record Least (f : ℕ → ℕ) (from n best : ℕ) : Type 0 where
  pub most : best ≤ no_key
  pub least : (i : ℕ) → i < n → from ≤ f i → best ≤ f i
  pub found : best < no_key → (i : ℕ) × (i < n) × (from ≤ f i) × (best ≡ f i)

module _ {last : ℤ} {from : ℕ} (p : From last from) (f : ℕ → ℕ) where
  -- one key more
  module _ {n best : ℕ} (l : Least f from n best) where
    least_with : (t : ℕ) → t ≤ best → (from ≤ f n → t ≤ f n) → (i : ℕ) → i < suc n → from ≤ f i → t ≤ f i
    least_with t b g i m h =
        lt_cases i n (λ c. omega (arith, l.least i c h))
        (λ c. let q : i ≡ n = omega arith in let e : f i ≡ f n = ap f q in omega (arith, g (omega arith)))

    found_still : best < no_key → (i : ℕ) × (i < suc n) × (from ≤ f i) × (best ≡ f i)
    found_still m = let q = l.found m in (q.0, omega (arith, q.1), q.2, q.3)

    abbrev More : Type 0
    More = (t : ℕ) × (lesser (above last (pos (f n))) (pos best) ≡ pos t) × Least f from (suc n) t

    least_more : More
    least_more = lt_cases (f n) from not_above (λ h. lt_cases (f n) best (better h) (not_better h))
      where
        chosen : (t : Bool) → lt_z last (pos (f n)) ≡ t → lesser (above last (pos (f n))) (pos best) ≡ lesser (cond t (pos (f n)) (pos no_key)) (pos best)
        chosen t e = ap (λ (u : Bool). lesser (cond u (pos (f n)) (pos no_key)) (pos best)) e

        not_above : f n < from → More
        not_above h = (
          best,
          chosen false (p.no (f n) h) ∙ ap (λ (u : Bool). cond u (pos no_key) (pos best)) (le-ltb no_key best l.most),
          record { most = l.most; least = least_with best (omega arith) (λ g. absurd (omega arith)); found = found_still },
        )

        better : from ≤ f n → f n < best → More
        better h c = (
          f n,
          chosen true (p.yes (f n) h) ∙ ap (λ (u : Bool). cond u (pos (f n)) (pos best)) (lt-ltb (f n) best c),
          record { most = omega (arith, l.most); least = least_with (f n) (omega arith) (λ g. omega arith); found = λ _. (n, omega arith, h, refl) },
        )

        not_better : from ≤ f n → best ≤ f n → More
        not_better h c = (
          best,
          chosen true (p.yes (f n) h) ∙ ap (λ (u : Bool). cond u (pos (f n)) (pos best)) (le-ltb (f n) best c),
          record { most = l.most; least = least_with best (omega arith) (λ g. c); found = found_still },
        )

  pub least_above_lem : (keys : List ℤ) (n : ℕ) → ((i : ℕ) → i < n → get_or keys i (pos 0) ≡ pos (f i)) → (best : ℕ) × (least_above last keys n ≡ pos best) × Least f from n best
  unfolding least_above
  least_above_lem keys zero e =
      (no_key, refl, record { most = omega arith; least = λ i m. absurd (omega arith); found = λ m. absurd (omega arith) })
  least_above_lem keys (suc n) e =
      let q = least_above_lem keys n (λ i m. e i (omega arith)) in
      let r = least_more q.2 in
      (r.0, ap₂ (λ (key best : ℤ). lesser (above last key) best) (e n (omega arith)) q.1 ∙ r.1, r.2)
