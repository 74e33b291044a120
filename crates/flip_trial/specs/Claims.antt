-- What the theorems of this crate state of its definitions.
use Rattle.std.specs.Prelude.{◌≡◌, cond, List, ℕ, ◌-◌, ◌/◌, ◌<◌, ◌≤◌, leb, ltb, ℤ, pos, get_or}
use Rattle.bits.specs.Mask.{mask_bit}
use Rattle.code.specs.declared.Code.{Code}
use Rattle.pass_tree.specs.Node.{Out, node}
use Rattle.flip_trial.specs.Trial.{first_trial, flip_rule, lowest, forced_prefix}

-- a later trial that resumes at q
abbrev pub trial_from : ℕ → List ℕ → Code → List ℤ → List ℕ → Out
trial_from q mask c v is = node c.n (forced_prefix (first_trial mask c v).bits (lowest is) q) (flip_rule mask is) v

-- the index at which half restart resumes, if i is the lowest flipped index
abbrev pub half_at : ℕ → ℕ → ℕ
half_at N i = cond (leb (N / 2) i) (N / 2) 0

-- where a trial with these flips may resume: at its lowest flipped index or below, or past it while only frozen indices lie between.
-- `restartable` of proofs/Restartable.antt says that every restart does.
pub record Restartable (mask : List ℕ) (size : ℕ) (is : List ℕ) (q : ℕ) : Type 0 where
  pub most : q ≤ size
  pub between : (j : ℕ) → lowest is < j → j < q → mask_bit mask j ≡ 0

-- the leaf value at index j of the later trial o, which resumes at q: below q it is trial 1's. `same-leaf` of proofs/Agree.antt
abbrev pub leaf_at : ℕ → Out → Out → ℕ → ℤ
leaf_at q first o j = cond (ltb j q) (get_or first.leaves j (pos 0)) (get_or o.leaves (j - q) (pos 0))
