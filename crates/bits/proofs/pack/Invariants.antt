-- The bytes so far are packed.
use Rattle.std.proofs.Common.{◌≡◌, ℕ, ◌<◌, get_or}
use Rattle.bits.specs.Packing.{packed_byte}
use Rattle.bits.proofs.pack.Given as goal

abbrev pub invariant-loop-m : goal.invariant-loop-m
invariant-loop-m l = (k : ℕ) → k < l.m → get_or l.bytes k 0 ≡ packed_byte l.bits k
