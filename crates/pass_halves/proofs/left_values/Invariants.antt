use Rattle.pass_halves.proofs.Layers.{Computing, left_at}
use Rattle.pass_halves.proofs.left_values.Given as goal

abbrev pub invariant-loop-j : goal.invariant-loop-j
invariant-loop-j g l = Computing (left_at (g.V.Values.values l.node l.h l.fn.work) l.h) l.h l.fn.work l.work l.steps l.j
