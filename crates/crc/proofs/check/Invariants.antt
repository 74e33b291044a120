-- The register, run over what is left of the payload, ends at the check.
use Rattle.std.proofs.Common.{◌≡◌, ◌^◌, ◌<◌, drop}
use Rattle.bits.specs.Bit.{bits_of}
use Rattle.crc.specs.Check.{check_of}
use Rattle.crc.proofs.Register.{run}
use Rattle.crc.proofs.check.Given as goal

abbrev pub invariant-loop-bit : goal.invariant-loop-bit
invariant-loop-bit l = record {
  fits : l.register < 2 ^ l.r;
  left : run (bits_of l.r l.poly) (bits_of l.r l.register) (drop l.bit-index l.payload) ≡ check_of (bits_of l.r l.poly) (bits_of l.r l.start) l.payload;
}
