-- The run of all later trials is the run of those that are left, `key` is the last key, and the rules are those of a plain pass.
use Rattle.std.proofs.Common.{◌-◌, ◌∷◌, []}
use Rattle.arrays.specs.Claims.{longest}
use Rattle.channel.specs.Channel.{channel_values}
use Rattle.pass_ends.specs.Clauses.{arrays, Whole}
use Rattle.flip_order.proofs.Keys.{LastKey}
use Rattle.flip_trial.specs.Trial.{first_trial, later_trial, trial_passes}
use Rattle.flip_trial.specs.Clauses.{PlainRules}
use Rattle.flip_run.specs.Trials.{flip_order}
use Rattle.flip_run.proofs.LoopInvariant.{LoopInvariant}
use Rattle.flip_run.proofs.flip_trials.Given as goal

abbrev pub invariant-loop-trial : goal.invariant-loop-trial
invariant-loop-trial l =
    let v = channel_values l.channel in
    let made = l.trial - 1 in
    LoopInvariant (trial_passes l.mask l.code) (λ i. later_trial l.terms.restart l.mask l.code v (i ∷ [])) (flip_order l.mask l.code v) l.terms.limit l.start made l.steps
    × LastKey (first_trial l.mask l.code v).leaves (flip_order l.mask l.code v) (made - 1) l.key
    × PlainRules longest l.mask l.code l.rules
    × Whole longest (arrays l.work l.bits l.sums l.leaves)
