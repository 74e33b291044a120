-- The run of all later trials is the run of those that are left, the queue holds the untried sets, and the rules are those of a plain pass.
use Rattle.std.proofs.Common.{List}
use Rattle.arrays.specs.Claims.{longest}
use Rattle.channel.specs.Channel.{channel_values}
use Rattle.pass_ends.specs.Clauses.{arrays, Whole}
use Rattle.flip_trial.specs.Clauses.{PlainRules}
use Rattle.decoder.specs.Candidate.{Candidate}
use Rattle.sets_run.proofs.Searching.{Searching}
use Rattle.sets_run.proofs.set_trials.Given as goal

abbrev pub invariant-loop-key : goal.invariant-loop-key
invariant-loop-key l =
    ((untried : List Candidate) × Searching l.search l.mask l.code (channel_values l.channel) l.start l.trials l.steps l.queue untried)
    × PlainRules longest l.mask l.code l.rules
    × Whole longest (arrays l.work l.bits l.sums l.leaves)

abbrev pub decreases-loop-key : goal.decreases-loop-key
decreases-loop-key l = l.queue.room
