use Rattle.std.proofs.Common.{List, ℕ, ◌+◌, ◌++◌, take, sym, ap, ◌∙◌}
use Rattle.laws.proofs.Segment.{splice-end}
use Rattle.bits.specs.Bit.{bits_of}
use Rattle.bits.proofs.BitsOf.{length-bits_of}
use Rattle.crc.proofs.append_check.Goals as goal

pub returns : goal.returns
returns c =
    let m = c.args.message.now in
    let register = c.check-register in
    c.put_bits.ensures
    ∙ splice-end m c.args.k (bits_of c.args.r register.result) (c.requires.1 ∙ ap (λ (n : ℕ). c.args.k + n) (sym (length-bits_of c.args.r register.result)))
    ∙ ap (λ (bits : List ℕ). take c.args.k m ++ bits) register.ensures.0
