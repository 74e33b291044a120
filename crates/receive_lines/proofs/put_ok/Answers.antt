use Rattle.std.proofs.Common.{rules, arith}
use Rattle.receive_lines.proofs.Hex.{length-hex}
use Rattle.receive_lines.proofs.Putting.{put_then}
use Rattle.receive_lines.proofs.put_ok.Goals as goal

-- there is room for the line feed
pub put_byte-requires-2 : goal.put_byte-requires-2
put_byte-requires-2 c = let begins = rw c.new-text.ensures at c.put_bytes.ensures in omega (arith, c.requires, length-hex c.args.payload.now)

pub returns : goal.returns
returns c =
    let p =
    put_then c.put_bytes.ensures
    (put_then c.put_number.ensures.put
    (put_then c.put_number-2.ensures.put
    (put_then c.put_byte.ensures
    (put_then c.put_hex.ensures
    c.put_byte-2.ensures)))) in
    search rules
