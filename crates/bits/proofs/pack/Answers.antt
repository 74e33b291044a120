use Rattle.std.proofs.Common.{arith}
use Rattle.laws.proofs.Table.{table_from}
use Rattle.bits.specs.Packing.{packed}
use Rattle.bits.proofs.pack.Goals as goal

pub returns : goal.returns
unfolding packed
returns c = table_from _ _ 0 _ (omega arith) (λ k l. c.loop-m.invariant k (omega arith))
