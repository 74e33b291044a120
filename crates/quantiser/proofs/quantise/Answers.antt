-- `quantiser::quantise` meets its contract, by the judgement.
use Rattle.std.proofs.Common.{sym, ap, ◌∙◌}
use Rattle.refusal.proofs.Judge.{refused_fine, refused_by}
use Rattle.refusal.proofs.Passed.{passed_on}
use Rattle.quantiser.specs.Quantise.{quantised}
use Rattle.quantiser.proofs.WellFormed.{fine_well_formed}
use Rattle.quantiser.proofs.quantise.Goals as goal
use Rattle.quantiser.specs.Clauses.{Quantised}

pub returns-in_err-judge_quantising : goal.returns-in_err-judge_quantising
unfolding quantised
returns-in_err-judge_quantising c =
    ap (λ (r : Quantised). (r, c.args.output.now)) (passed_on _ _ c.from_residual.ensures)
    ∙ sym (refused_by _ _ _ _ (sym c.judge_quantising.ensures ∙ c.in_err-judge_quantising.was))

pub fill-requires : goal.fill-requires
fill-requires c = fine_well_formed _ _ _ (sym c.judge_quantising.ensures ∙ c.in_ok-judge_quantising.was)

pub returns : goal.returns
unfolding quantised
returns c = c.fill.ensures ∙ sym (refused_fine _ _ _ (sym c.judge_quantising.ensures ∙ c.in_ok-judge_quantising.was))
