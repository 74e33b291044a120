-- What bounds a trial: its bits are 0 or 1, and it takes at most the steps of a whole pass.
use mathlib.Core.List.{List, []}
use Prim.Native.Nat.{ℕ, ◌*◌, ◌≤◌}
use lib.IntN.{ℤ}
use Rattle.bits.specs.Claims.{Bits}
use Rattle.bits.proofs.Lists.{bits-nil}
use Rattle.code.specs.declared.Code.{Code}
use Rattle.code.specs.Code.{code_length}
use Rattle.values.specs.Values.{mask_rule}
use Rattle.pass_tree.proofs.StepsMost.{steps_most}
use Rattle.pass_tree.proofs.Sums.{bits-bits}
use Rattle.flip_trial.specs.Trial.{first_trial, flip_rule, lowest, forced_prefix}
use Rattle.flip_trial.specs.Claims.{trial_from}
use Rattle.flip_trial.proofs.Prefix.{bits-forced}

module _ (mask : List ℕ) (c : Code) (v : List ℤ) where
  pub first_bits : Bits (first_trial mask c v).bits
  first_bits = bits-bits c.n [] (mask_rule mask) v bits-nil

  pub first_steps : (first_trial mask c v).work.steps ≤ c.n * code_length c
  first_steps = steps_most c.n [] (mask_rule mask) v

  -- a later trial, wherever it resumes
  module _ (is : List ℕ) (q : ℕ) where
    abbrev prefix : List ℕ
    prefix = forced_prefix (first_trial mask c v).bits (lowest is) q

    pub later-bits : Bits (trial_from q mask c v is).bits
    later-bits = bits-bits c.n prefix (flip_rule mask is) v (bits-forced (first_trial mask c v).bits (lowest is) q first_bits)

    pub later_steps : (trial_from q mask c v is).work.steps ≤ c.n * code_length c
    later_steps = steps_most c.n prefix (flip_rule mask is) v
