use Rattle.std.proofs.Common.{refl, ap, ◌∙◌, length, arith}
use Rattle.std.proofs.lemmas.List.{take_all}
use Rattle.laws.specs.Clauses.{splice}
use Rattle.receive_lines.proofs.Putting.{put_in_line}
use Rattle.receive_lines.proofs.Line.put_bytes.Goals as goal

pub returns : goal.returns
returns c =
    let line = c.args.self.now in
    let bytes = c.args.bytes.now in
    put_in_line refl
    (record {
      next_is = refl;
      fits = omega (arith, c.requires);
      after_is = c.copy.ensures ∙ ap (splice line.buffer.now line.end) (take_all (length bytes) bytes (omega arith));
    })
