use Rattle.std.proofs.Common.{arith}
use Rattle.laws.proofs.Table.{table_from}
use Rattle.bits.specs.Packing.{unpacked}
use Rattle.bits.proofs.unpack.Goals as goal

pub returns : goal.returns
unfolding unpacked
returns c = table_from _ _ 0 _ (omega arith) (λ k l. c.loop-i.invariant k (omega arith))
