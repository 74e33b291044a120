use Rattle.std.proofs.Common.{arith}
use lib.Bits.{xor_lt}
use lib.Pow.{pow_mono}
use Rattle.crc.proofs.Words.{highest_lt, leaving, stepped_lt, bits_of-stepped}
use Rattle.crc.proofs.register_step.Goals as goal

pub word_if-requires : goal.word_if-requires
word_if-requires c =
    let a = c.args in (
      xor_lt 1 _ _ (highest_lt a.r a.register c.requires.0 c.requires.3) (omega arith),
      omega (arith, pow_mono {i = a.r} {j = 16} c.requires.1, c.requires.2),
    )

pub returns : goal.returns
returns c =
    let a = c.args in (
      rw c.word_if.ensures (rw (leaving a.r a.register a.next c.requires.0 c.requires.3) (bits_of-stepped a.r a.word a.register a.next c.requires.0 c.requires.1)),
      rw c.word_if.ensures (stepped_lt a.r a.word a.register _ c.requires.1 c.requires.2 (xor_lt 1 _ _ (highest_lt a.r a.register c.requires.0 c.requires.3) (omega arith))),
    )
