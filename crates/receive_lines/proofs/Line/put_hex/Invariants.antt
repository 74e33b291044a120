-- The digits of the bytes so far are put.
use Rattle.std.proofs.Common.{take}
use Rattle.receive_lines.specs.Line.{hex}
use Rattle.receive_lines.specs.Clauses.{Put}
use Rattle.receive_lines.proofs.Line.put_hex.Given as goal

abbrev pub invariant-loop-byte : goal.invariant-loop-byte
invariant-loop-byte l = Put l.initial.self (hex (take l.byte-index l.bytes)) l.self
