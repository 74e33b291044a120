-- The doubtful indices below j are counted.
use Rattle.std.proofs.Common.{◌≡◌}
use Rattle.decoder.specs.Candidate.{doubtful}
use Rattle.sets_queue.proofs.Leaves.doubtful.Given as goal

abbrev pub invariant-loop-j : goal.invariant-loop-j
invariant-loop-j l = l.count ≡ doubtful l.self.mask.now l.self.values.now l.j
