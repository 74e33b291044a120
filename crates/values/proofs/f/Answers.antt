use Rattle.std.proofs.Common.{arith}
use Rattle.std.proofs.lemmas.Int.{ints, clamps, to_z-of_z}
use Rattle.values.specs.Values.{f}
use Rattle.values.proofs.f.Goals as goal

pub returns-then-hard : goal.returns-then-hard
unfolding f
returns-then-hard c = grind (arith, ints, clamps, to_z-of_z)

pub returns-else-hard : goal.returns-else-hard
unfolding f
returns-else-hard c = grind (arith, ints, clamps, to_z-of_z)
