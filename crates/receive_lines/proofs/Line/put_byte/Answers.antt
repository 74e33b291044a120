use Rattle.std.proofs.Common.{refl, arith}
use Rattle.receive_lines.proofs.Putting.{put_byte, put_in_line}
use Rattle.receive_lines.proofs.Line.put_byte.Goals as goal

pub returns : goal.returns
returns c = put_in_line refl (put_byte (omega (arith, c.requires)))
