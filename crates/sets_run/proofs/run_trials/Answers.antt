-- `sets_run::run_trials` meets its contract: with a limit of 1 the failed trial 1 ends the run.
use Rattle.std.proofs.Common.{sym, ap, ◌∙◌, subst, ℕ, Err}
use Rattle.channel.specs.Channel.{channel_values}
use Rattle.flip_run.specs.Trials.{Verdict, tally}
use Rattle.flip_run.specs.Clauses.{Ran}
use Rattle.sets_run.proofs.First.{none_allowed}
use Rattle.sets_run.proofs.run_trials.Goals as goal

pub returns-then-search-eq1 : goal.returns-then-search-eq1
returns-then-search-eq1 c =
    let x = c.args in
    let t = c.in-Err.failed in
    let e = c.in-Err.ensures in (
      subst (λ (w : Verdict). Ran x.mask.now x.code w (Err t) c.begin.new.sums)
          (sym (e.1.later.goes_on _ ∙ none_allowed x.search x.mask.now x.code (channel_values x.channel.now) t.steps c.if-search-eq1.true))
          (ap (λ (m : ℕ). Err (tally m t.steps)) e.0),
      e.1.whole.sums,
    )
