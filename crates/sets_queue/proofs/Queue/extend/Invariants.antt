-- At each turn the sets are inserted that append an index below j.
use Rattle.std.proofs.Common.{◌≡◌, map}
use Rattle.decoder.specs.Candidate.{doubtful, extensions}
use Rattle.sets_queue.specs.Clauses.{set_key, with_keys}
use Rattle.sets_queue.proofs.Queue.extend.Given as goal

abbrev pub invariant-loop-j : goal.invariant-loop-j
invariant-loop-j l = record {
  counted : l.small ≡ doubtful l.leaves.mask.now l.leaves.values.now l.j;
  inserted : l.queue ≡ with_keys (map set_key (extensions l.leaves.mask.now l.leaves.values.now l.set l.j)) l.initial.queue;
}
