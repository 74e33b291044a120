-- The first j values are in their places.
use Rattle.std.proofs.Common.{get_or, take, pos}
use Rattle.laws.proofs.Filling.{Filling}
use Rattle.sets_run.proofs.copy_values.Given as goal

abbrev pub invariant-loop-j : goal.invariant-loop-j
invariant-loop-j l = Filling (λ i. get_or (take l.count l.source) i (pos 0)) 0 l.count l.initial.target l.target l.j
