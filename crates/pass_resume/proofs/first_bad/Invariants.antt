-- No byte before this one is bad.
use Rattle.std.proofs.Common.{◌≡◌, ℕ, ◌<◌, List, Bool, false, get_or}
use Rattle.bits.specs.Mask.{mask_bit}
use Rattle.pass_resume.specs.Clauses.{bad_bit}
use Rattle.pass_resume.proofs.first_bad.Given as goal

abbrev pub bad : List ℕ → List ℕ → ℕ → Bool
bad mask prefix k = bad_bit (get_or prefix k 0) (mask_bit mask k)

abbrev pub invariant-loop-i : goal.invariant-loop-i
invariant-loop-i l = (k : ℕ) → k < l.i → bad l.mask l.prefix k ≡ false
