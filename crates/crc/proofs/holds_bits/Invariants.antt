-- The bits so far are the register's highest.
use Rattle.std.proofs.Common.{◌≡◌, ℕ, ◌+◌, ◌-◌, ◌<◌, get_or}
use Rattle.bits.specs.Bit.{bit}
use Rattle.crc.proofs.holds_bits.Given as goal

abbrev pub invariant-loop-j : goal.invariant-loop-j
invariant-loop-j l = (k : ℕ) → k < l.j → get_or l.bit-items k 0 ≡ bit l.register (l.r - (k + 1))
