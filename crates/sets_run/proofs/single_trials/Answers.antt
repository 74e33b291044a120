-- The keys are those of the sets that trial 1 generated.
use Rattle.std.proofs.Common.{arith, ◌∙◌}
use Rattle.arrays.proofs.Sizes.{fits}
use Rattle.decoder.proofs.Limit.{limit_fits}
use Rattle.sets_run.proofs.First.{walk_first, first_sets}
use Rattle.sets_run.proofs.single_trials.Goals as goal

pub first_sets-queue-requires : goal.first_sets-queue-requires
first_sets-queue-requires c =
    let x = c.args in
    let on = c.requires.0 in (
      walk_first on c.requires.1.leaves,
      on.limit_least,
      omega (arith, limit_fits x.search.w x.code (omega (arith, on.frame.coded.K_most, fits on.frame.coded.n_most)), on.limit_most),
    )

pub set_trials-requires : goal.set_trials-requires
set_trials-requires c =
    let p = c.requires in
    (p.0, p.1.later, (λ l. absurd (omega (arith, l, p.2))), c.first_sets-queue.ensures ∙ first_sets p.0 p.1.leaves, p.1.whole)
