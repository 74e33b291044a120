-- As many trials as the largest limit allows are few enough.
use Prim.Native.Nat.{ℕ, ◌+◌, ◌≤◌, ◌<◌}
use native.Mathlib.Omega.{arith}
use lib.Dec.{eqb, eqb→eq}
use Rattle.laws.proofs.Choice.{cond_ind}
use Rattle.arrays.specs.Claims.{longest, most_trials}
use Rattle.code.specs.declared.Code.{Code}
use Rattle.code.specs.Code.{information_count}
use Rattle.decoder.specs.Decoder.{most_limit}

pub limit_fits : (w : ℕ) (c : Code) → information_count c ≤ longest → most_limit w c ≤ most_trials
limit_fits w c l = cond_ind (λ (x : ℕ). x ≤ most_trials) (eqb w 1) (information_count c + 1) 512 (λ _. omega arith) (λ _. omega arith)

-- with sets of more than one index they are at most 512
pub limit_larger : (w : ℕ) (c : Code) → 1 < w → most_limit w c ≤ 512
limit_larger w c l = cond_ind (λ (x : ℕ). x ≤ 512) (eqb w 1) (information_count c + 1) 512 (λ e. absurd (omega (arith, eqb→eq w 1 e))) (λ _. omega arith)
