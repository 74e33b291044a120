use Rattle.std.proofs.Common.{arith}
use Rattle.laws.proofs.Segment.{put_mid-splice}
use Rattle.bits.proofs.BitsOf.{length-bits_of, bits_of-from}
use Rattle.crc.proofs.put_bits.Goals as goal

pub returns : goal.returns
returns c =
    let a = c.args in
    put_mid-splice _ _ _ a.at _
    (bits_of-from a.r a.register _ (omega arith) (λ k l. c.loop-j.invariant k (omega arith)))
    (omega (arith, length-bits_of a.r a.register))
