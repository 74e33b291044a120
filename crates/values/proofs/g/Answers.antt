use Rattle.std.proofs.Common.{arith}
use Rattle.std.proofs.lemmas.Int.{ints}
use Rattle.values.specs.Values.{g}
use Rattle.values.proofs.g.Goals as goal

pub returns-then-sum-eq0 : goal.returns-then-sum-eq0
unfolding g
returns-then-sum-eq0 c = grind (arith, ints)

pub returns-else-sum-eq0 : goal.returns-else-sum-eq0
unfolding g
returns-else-sum-eq0 c = grind (arith, ints)
