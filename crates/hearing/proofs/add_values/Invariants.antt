-- The first i values are sums, the others as they were.
use Rattle.std.proofs.Common.{length, get_or}
use Rattle.laws.proofs.Filling.{Filling}
use Rattle.hearing.specs.Clauses.{clipped_sum}
use Rattle.hearing.proofs.add_values.Given as goal

abbrev pub invariant-loop-i : goal.invariant-loop-i
invariant-loop-i l =
    Filling (λ k. clipped_sum (get_or l.initial.values k 0) (get_or l.channel k 0)) 0 (length l.channel) l.initial.values l.values l.i
