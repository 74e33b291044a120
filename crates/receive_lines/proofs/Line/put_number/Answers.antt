-- A number of 64 bits has at most 20 digits.
use Rattle.std.proofs.Common.{arith}
use Rattle.receive_lines.proofs.Decimal.{length-decimal}
use Rattle.receive_lines.proofs.Putting.{put_then}
use Rattle.receive_lines.proofs.Line.put_number.Goals as goal

pub put_decimal-requires : goal.put_decimal-requires
put_decimal-requires c = omega (arith, c.requires, length-decimal c.args.n 19 (omega arith))

pub returns-clause-put : goal.returns-clause-put
returns-clause-put c = put_then c.put_byte.ensures c.put_decimal.ensures

pub returns-clause-most : goal.returns-clause-most
returns-clause-most c = omega (arith, length-decimal c.args.n 19 (omega arith))
