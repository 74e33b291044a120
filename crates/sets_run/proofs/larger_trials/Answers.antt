-- The keys are those of the sets that trial 1 generated.
use Rattle.std.proofs.Common.{arith, refl, ◌∙◌}
use Rattle.decoder.proofs.Limit.{limit_larger}
use Rattle.sets_run.proofs.First.{walk_first, first_sets}
use Rattle.sets_run.proofs.larger_trials.Goals as goal

pub first_sets-queue-requires : goal.first_sets-queue-requires
first_sets-queue-requires c =
    let x = c.args in
    let on = c.requires.0 in (
      walk_first on c.requires.1.leaves,
      on.limit_least,
      omega (arith, limit_larger x.search.w x.code c.requires.2, on.limit_most),
    )

pub set_trials-requires : goal.set_trials-requires
set_trials-requires c =
    let p = c.requires in
    let w = p.1.whole in
    (p.0, p.1.later, (λ _. p.1.leaves), c.first_sets-queue.ensures ∙ first_sets p.0 p.1.leaves, record { work = w.work; bits = w.bits; sums = w.sums; leaves = refl })
