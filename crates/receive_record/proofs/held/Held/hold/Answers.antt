use Rattle.std.proofs.Common.{refl, ap, ◌∙◌, length, take, List, ℕ, arith}
use Rattle.std.proofs.lemmas.List.{take_all}
use Rattle.laws.specs.Clauses.{splice}
use Rattle.laws.proofs.Segment.{segment-splice}
use Rattle.receive_record.proofs.held.Held.hold.Goals as goal

-- the bytes are at the beginning of the buffer
pub returns-clause-held : goal.returns-clause-held
returns-clause-held c =
    let bytes = c.args.bytes.now in
    let buffer = c.args.self.now.buffer.now in
    ap (take (length bytes)) (c.copy.ensures ∙ ap (splice buffer 0) (take_all (length bytes) bytes (omega arith)))
    ∙ segment-splice buffer 0 bytes (length bytes) refl (omega (arith, c.requires, c.args.self.now.room))
