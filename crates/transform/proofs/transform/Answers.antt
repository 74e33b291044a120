-- Of bits, the recursive form is the transform.
use Rattle.std.proofs.Common.{ap, ◌∙◌, arith}
use Rattle.laws.specs.Clauses.{splice}
use Rattle.laws.proofs.Segment.{length-segment}
use Rattle.transform.proofs.Folded.{folded-bits}
use Rattle.transform.proofs.transform.Goals as goal

pub returns : goal.returns
returns c =
    let p = c.requires.1 in
    let w = c.args.bits.now in
    let long = length-segment w c.args.base c.args.size (omega (arith, p.whole, p.fits)) ∙ c.requires.0 in
    c.fold.ensures ∙ ap (splice w c.args.base) (folded-bits c.args.layer _ long p.bits)
