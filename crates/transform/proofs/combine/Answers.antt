-- Of bits, the exclusive-or is theirs.
use Rattle.std.proofs.Common.{ap, ◌∙◌}
use Rattle.laws.specs.Clauses.{splice}
use Rattle.transform.proofs.BitsAt.{left-half, right-half}
use Rattle.transform.proofs.Folded.{xor_bytes-bits}
use Rattle.transform.proofs.combine.Goals as goal

pub returns : goal.returns
returns c =
    c.xor_halves.ensures
    ∙ ap (splice c.args.bits.now c.args.base) (xor_bytes-bits c.args.h _ _ (left-half c.requires).bits (right-half c.requires).bits)
