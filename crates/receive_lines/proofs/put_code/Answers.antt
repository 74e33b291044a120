use Rattle.std.proofs.Common.{rules}
use Rattle.receive_lines.proofs.Putting.{put_then}
use Rattle.receive_lines.proofs.put_code.Goals as goal

pub returns : goal.returns
returns c =
    let p =
    put_then c.put_bytes.ensures (put_then c.put_number.ensures.put (put_then c.put_number-2.ensures.put (put_then c.put_number-3.ensures.put c.put_byte.ensures))) in
    search rules
