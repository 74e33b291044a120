-- The bits so far are unpacked.
use Rattle.std.proofs.Common.{◌≡◌, ℕ, ◌-◌, ◌/◌, ◌%◌, ◌<◌, get_or}
use Rattle.bits.specs.Bit.{bit}
use Rattle.bits.proofs.unpack.Given as goal

abbrev pub invariant-loop-i : goal.invariant-loop-i
invariant-loop-i l = (k : ℕ) → k < l.i → get_or l.bits k 0 ≡ bit (get_or l.bytes (k / 8) 0) (7 - k % 8)
