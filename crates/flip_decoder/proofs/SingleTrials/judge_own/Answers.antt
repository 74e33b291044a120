-- Single flips are refused as 14.
use Rattle.std.proofs.Common.{sym, ◌∙◌}
use Rattle.refusal.proofs.Judge.{judge-none, judge_yes, judge_no}
use Rattle.flip_decoder.proofs.SingleTrials.judge_own.Goals as goal

pub returns-then-is_outside : goal.returns-then-is_outside
returns-then-is_outside c = sym (judge_yes _ _ _ (sym c.is_outside.ensures ∙ c.if-is_outside.true))

pub returns : goal.returns
returns c = sym (judge_no _ _ _ (sym c.is_outside.ensures ∙ c.if-is_outside.false) ∙ judge-none)
