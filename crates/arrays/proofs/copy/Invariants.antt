-- The first j bytes of the segment are in their places.
use Rattle.std.proofs.Common.{get_or}
use Rattle.laws.specs.Clauses.{segment}
use Rattle.laws.proofs.Filling.{Filling}
use Rattle.arrays.proofs.copy.Given as goal

abbrev pub invariant-loop-j : goal.invariant-loop-j
invariant-loop-j l = Filling (λ i. get_or (segment l.source l.start l.count) i 0) l.at l.count l.initial.target l.target l.j
