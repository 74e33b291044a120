use Rattle.laws.specs.Clauses.{segment}
use Rattle.pass_halves.proofs.Layers.{Computing, right_at}
use Rattle.pass_halves.proofs.right_values.Given as goal

abbrev pub invariant-loop-j : goal.invariant-loop-j
invariant-loop-j g l = Computing (right_at (g.V.Values.values l.node l.h l.fn.work) (segment l.sums l.base l.h) l.h) l.h l.fn.work l.work l.steps l.j
