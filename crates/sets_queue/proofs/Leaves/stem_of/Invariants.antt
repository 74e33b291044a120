-- The stem of the indices that were taken.
use Rattle.std.proofs.Common.{◌≡◌, take}
use Rattle.sets_queue.specs.Clauses.{stem_of}
use Rattle.sets_queue.proofs.Leaves.stem_of.Given as goal

abbrev pub invariant-loop-i : goal.invariant-loop-i
invariant-loop-i l = l.stem ≡ stem_of l.self.values.now (take l.i-index l.set)
