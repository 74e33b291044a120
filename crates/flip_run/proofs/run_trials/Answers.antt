-- `flip_run::run_trials` meets its contract: with a limit of 1 the failed trial 1 ends the run.
use Rattle.std.proofs.Common.{sym, ap, ◌∙◌, subst, arith, ℕ, Err}
use Rattle.arrays.proofs.Sizes.{steps_fit}
use Rattle.flip_run.specs.Trials.{Verdict, tally}
use Rattle.flip_run.specs.Clauses.{Ran}
use Rattle.flip_run.proofs.LoopInvariant.{loop_starts, loop_ends}
use Rattle.flip_run.proofs.LoopStep.{order_long}
use Rattle.flip_run.proofs.run_trials.Goals as goal

pub returns-then-terms-eq1 : goal.returns-then-terms-eq1
returns-then-terms-eq1 c =
    let x = c.args in
    let on = c.requires.0 in
    let t = c.in-Err.failed in
    let e = c.in-Err.ensures in (
      subst (λ (w : Verdict). Ran x.mask.now x.code w (Err t) c.begin.new.sums)
          (sym (e.1.later.goes_on _ ∙ loop_ends (loop_starts c.requires.1.least (steps_fit on.coded.n_most e.1.later.start_most)) (order_long on c.requires.1.most) (omega arith)))
          (ap (λ (m : ℕ). Err (tally m t.steps)) e.0),
      e.1.whole.sums,
    )
