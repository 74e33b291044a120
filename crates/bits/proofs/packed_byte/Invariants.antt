-- The byte is the number that its first b bits make.
use Rattle.std.proofs.Common.{◌≡◌, ◌+◌, ◌*◌, get_or}
use Rattle.bits.specs.Bit.{number}
use Rattle.bits.proofs.packed_byte.Given as goal

abbrev pub invariant-loop-b : goal.invariant-loop-b
invariant-loop-b l = l.byte ≡ number (λ b. get_or l.bits (8 * l.m + b) 0) l.b
