-- The best is the least of the keys before this one that are above the last one.
use Rattle.std.proofs.Common.{◌≡◌}
use Rattle.flip_order.specs.Clauses.{least_above}
use Rattle.flip_order.proofs.next_key.Given as goal

abbrev pub invariant-loop-key : goal.invariant-loop-key
invariant-loop-key l = l.best ≡ least_above l.last l.keys l.key-index
