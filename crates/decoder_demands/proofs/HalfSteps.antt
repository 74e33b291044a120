-- The steps that half restart saves: n × N/2 for each trial whose lowest flipped index lies in the second half. Restarted decoding saves
-- more in every later trial.
use mathlib.Core.Path.{◌≡◌, refl, sym, subst}
use mathlib.Core.Bool.{Bool, true, false, cond}
use mathlib.Core.List.{List, [], ◌∷◌, map}
use Prim.Native.Nat.{ℕ, suc, ◌+◌, ◌-◌, ◌*◌, ◌/◌, ◌≤◌}
use native.Mathlib.Omega.{arith}
use lib.Dec.{leb}
use lib.ListN.{length}
use Rattle.code.specs.declared.Code.{Code}
use Rattle.code.specs.Code.{code_length}
use Rattle.code.specs.Description.{mask_of}
use Rattle.pass_tree.specs.Skipped.{skipped}
use Rattle.pass_tree.proofs.Steps.{skipped-none, skipped-half, skipped_grows}
use Rattle.flip_trial.specs.declared.Restart.{Restart}
use Rattle.flip_trial.specs.declared.Restart.TheVariants.{Root, Half, AfterFlip}
use Rattle.flip_trial.specs.Trial.{resume_at, restart_at}
use Rattle.flip_trial.specs.Claims.{half_at}
use Rattle.flip_trial.proofs.Restartable.{half_at_most}
use Rattle.decoder.specs.Decoder.{Decoder}
use Rattle.decoder_demands.specs.Agreement.{skipped_over, lowest_of_each, SameRun}
use Rattle.decoder_demands.specs.Claims.{skipped_by, in_second_half, HalfSteps, RestartedFewer}

-- the steps below each index at which a trial resumes are skipped
pub skipped-by : (restart : Restart) (mask : List ℕ) (c : Code) (is : List ℕ) → skipped_by restart mask c is ≡ skipped_over c.n (map (restart_at restart mask (code_length c)) is)
skipped-by restart mask c [] = refl
skipped-by restart mask c (i ∷ is) = omega (arith, skipped-by restart mask c is)

module _ (mask : List ℕ) (c : Code) where
  abbrev N : ℕ
  N = code_length c

  pub skipped_by-half : (is : List ℕ) → skipped_by Half mask c is ≡ in_second_half N is * (c.n * (N / 2))
  skipped_by-half [] = omega arith
  skipped_by-half (i ∷ is) = go (leb (N / 2) i) (skipped_by-half is)
    where
      go : (t : Bool) → skipped_by Half mask c is ≡ in_second_half N is * (c.n * (N / 2))
          → skipped c.n (cond t (N / 2) 0) + skipped_by Half mask c is ≡ (cond t 1 0 + in_second_half N is) * (c.n * (N / 2))
      go true later = omega (arith, skipped-half c.n)
      go false later = omega (arith, skipped-none c.n)

  -- restarted decoding resumes at a higher index than half restart
  saves_more : (s i : ℕ) → skipped (suc s) (half_at N i) + 1 ≤ skipped (suc s) (resume_at mask N i)
  saves_more s i =
      let past : half_at N i ≤ resume_at mask N i = omega (arith, half_at_most N i) in
      omega (arith, half_at_most N i, skipped_grows s past)

  pub half_saves_less : 1 ≤ c.n → (is : List ℕ) → skipped_by Half mask c is + length is ≤ skipped_by AfterFlip mask c is
  half_saves_less l [] = omega arith
  half_saves_less l (i ∷ is) =
      let n-is : c.n ≡ suc (c.n - 1) = omega arith in
      let more = subst (λ (n : ℕ). skipped n (half_at N i) + 1 ≤ skipped n (resume_at mask N i)) (sym n-is) (saves_more (c.n - 1) i) in
      omega (arith, more, half_saves_less l is)

-- ---- of a run

module _ (p : Decoder) (d : List ℕ) (c : Code) (channel : List ℕ) (size : ℕ) (x : SameRun p d c channel size) where
  abbrev is : List ℕ
  is = lowest_of_each p d c channel x.made

  -- what a restart saves, by its indices
  saved : (r : Restart) → x.steps Root ≡ x.steps r + skipped_by r (mask_of d) c is
  saved r = omega (arith, x.exceeds r, skipped-by r (mask_of d) c is)

pub half_steps : HalfSteps
half_steps p d c channel size x =
    omega (arith, saved p d c channel size x Half, skipped_by-half (mask_of d) c (is p d c channel size x))

pub restarted_fewer : RestartedFewer
restarted_fewer p d c channel size x above =
    omega (arith, saved p d c channel size x Half, saved p d c channel size x AfterFlip, half_saves_less (mask_of d) c above (is p d c channel size x), x.each)
