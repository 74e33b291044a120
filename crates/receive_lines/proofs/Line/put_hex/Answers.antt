use Rattle.std.proofs.Common.{ℕ, ◌+◌, ◌≤◌, ◌∷◌, [], ◌++◌, length, take, sym, ap₂, ◌∙◌, arith}
use lib.Seq.{length-take-le}
use Rattle.receive_lines.specs.Line.{hex}
use Rattle.receive_lines.proofs.Hex.{length-hex, hex-next}
use Rattle.receive_lines.proofs.Putting.{nothing_put, put_then, put_equal}
use Rattle.receive_lines.proofs.Line.put_hex.Goals as goal
use Rattle.receive_lines.proofs.Line.put_hex.Goals.{In-loop-byte}

pub loop-byte-init : goal.loop-byte-init
loop-byte-init c = nothing_put (omega (arith, c.requires))

-- room for the two digits of a byte
room : (c : In-loop-byte) → c.loop-byte.self.end + 2 ≤ length c.loop-byte.self.buffer.now
room c =
    let l = c.loop-byte in
    let bytes = c.args.bytes.now in
    omega (arith, c.requires, length-hex (take l.byte-index bytes), length-take-le l.byte-index bytes (omega arith))

pub put_byte-requires : goal.put_byte-requires
put_byte-requires c = omega (arith, room (goal.at.put_byte-requires c).In-loop-byte)

pub put_byte-requires-in-loop-byte : goal.put_byte-requires-in-loop-byte
put_byte-requires-in-loop-byte c = omega (arith, room (goal.at.put_byte-requires-in-loop-byte c).In-loop-byte)

-- the digits of one more byte
pub loop-byte-preserved : goal.loop-byte-preserved
loop-byte-preserved c =
    let l = c.loop-byte in
    let bytes = c.args.bytes.now in
    put_equal
    (ap₂ (λ (x y : ℕ). hex (take l.byte-index bytes) ++ (x ∷ y ∷ [])) c.hex_digit.ensures c.hex_digit-in-loop-byte.ensures
    ∙ sym (hex-next bytes l.byte-index c.loop-byte-test.true))
    (put_then l.invariant (put_then c.put_byte.ensures c.put_byte-in-loop-byte.ensures))
