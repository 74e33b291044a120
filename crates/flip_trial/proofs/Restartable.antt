-- Where later trials may resume: at the root; at N/2 if the lowest flipped index is N/2 or above; and past the lowest flipped index, at
-- the first information index above it, or at N.
use mathlib.Core.Path.{◌≡◌, refl, sym, ap, ◌∙◌}
use mathlib.Core.Bool.{Bool, true, false, cond, true≢false}
use mathlib.Core.Logic.{inl, inr, ⊎_elim}
use mathlib.Core.List.{List, [], ◌∷◌}
use Prim.Native.Nat.{ℕ, ◌+◌, ◌-◌, ◌/◌, ◌<◌, ◌≤◌}
use native.Mathlib.Omega.{arith}
use borrow.Author.Tests.{leb-true, leb-false, eqb-true, eq-eqb}
use lib.Dec.{leb, eqb}
use Rattle.laws.specs.First.{first_where}
use Rattle.laws.proofs.First.{first_le, first-before, first_holds}
use Rattle.laws.proofs.Indices.{lt_cases}
use Rattle.bits.specs.Mask.{mask_bit}
use Rattle.bits.proofs.Mask.{mask_cases}
use Rattle.flip_trial.specs.declared.Restart.{Restart}
use Rattle.flip_trial.specs.declared.Restart.TheVariants.{Root, Half, AfterFlip}
use Rattle.flip_trial.specs.Trial.{lowest, resume_at, restart_at}
use Rattle.flip_trial.specs.FirstAfter.{FirstAfter}
use Rattle.flip_trial.specs.Flips.{Flips}
use Rattle.flip_trial.specs.Claims.{half_at, Restartable}
use Rattle.flip_trial.proofs.Flips.{lowest-below}

module _ (mask : List ℕ) (size i : ℕ) (below : i < size) where
  -- how many indices above i can be searched, and whether the k-th of them is an information index
  abbrev room : ℕ
  room = size - (i + 1)

  abbrev test : ℕ → Bool
  test k = eqb (mask_bit mask (i + 1 + k)) 1

  most : first_where test room < room + 1
  most = omega (arith, first_le test room)

  -- an index that is passed is frozen
  frozen_between : (j : ℕ) → i < j → j < resume_at mask size i → mask_bit mask j ≡ 0
  frozen_between j l m =
      let back : i + 1 + (j - (i + 1)) ≡ j = omega arith in
      let fails = first-before test room (j - (i + 1)) (omega arith) in
      ⊎_elim (λ z. z) (λ o. absurd (true≢false (sym (eq-eqb _ 1 (ap (mask_bit mask) back ∙ o)) ∙ fails))) (mask_cases mask j)

  pub resume_at_lem : FirstAfter mask size i (resume_at mask size i)
  resume_at_lem = record {
    above = omega arith;
    most = omega (arith, most);
    between = frozen_between;
    ends = lt_cases (first_where test room) room (λ l. inr (eqb-true _ 1 (first_holds test room l))) (λ l. inl (omega (arith, most)));
  }

-- half restart resumes at N/2 or at 0, and not above the lowest flipped index
half_cases : (P : ℕ → Type 0) (N i : ℕ) → (N / 2 ≤ i → P (N / 2)) → (i < N / 2 → P 0) → P (half_at N i)
half_cases P N i at below = go (leb (N / 2) i) refl
  where
    go : (t : Bool) → leb (N / 2) i ≡ t → P (cond t (N / 2) 0)
    go true e = at (leb-true (N / 2) i e)
    go false e = below (leb-false (N / 2) i e)

pub half_at_most : (N i : ℕ) → half_at N i ≤ i
half_at_most N i = half_cases (λ q. q ≤ i) N i (λ l. l) (λ l. omega arith)

-- of eight indices 3 is below N/2, 4 is N/2 and 5 is above
pub half_of_8 : restart_at Half [] 8 3 ∷ restart_at Half [] 8 4 ∷ restart_at Half [] 8 5 ∷ restart_at Half [] 8 7 ∷ [] ≡ 0 ∷ 4 ∷ 4 ∷ 4 ∷ []
half_of_8 = refl

module _ {mask : List ℕ} {size : ℕ} {is : List ℕ} (p : Flips mask size is) where
  pub restartable-root : Restartable mask size is 0
  restartable-root = record { most = omega arith; between = λ j l m. absurd (omega arith) }

  -- half restart resumes at the lowest flipped index or below
  pub restartable-half : Restartable mask size is (half_at size (lowest is))
  restartable-half =
      let l = half_at_most size (lowest is) in
      record { most = omega (arith, lowest-below p); between = λ j above below. absurd (omega arith) }

  pub restartable-after : Restartable mask size is (resume_at mask size (lowest is))
  restartable-after =
      let after = resume_at_lem mask size (lowest is) (lowest-below p) in
      record { most = after.most; between = after.between }

  pub restartable : (restart : Restart) → Restartable mask size is (restart_at restart mask size (lowest is))
  restartable Root = restartable-root
  restartable Half = restartable-half
  restartable AfterFlip = restartable-after
