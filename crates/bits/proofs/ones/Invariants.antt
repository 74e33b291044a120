-- The count is that of the information indices of the bytes so far.
use Rattle.std.proofs.Common.{◌≡◌, ◌*◌}
use Rattle.bits.specs.Mask.{ones_below}
use Rattle.bits.proofs.ones.Given as goal

abbrev pub invariant-loop-byte : goal.invariant-loop-byte
invariant-loop-byte l = l.count ≡ ones_below l.mask (8 * l.byte-index)
