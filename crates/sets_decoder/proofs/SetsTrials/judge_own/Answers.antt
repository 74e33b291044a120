-- Sets are refused as 26, then as 14.
use Rattle.std.proofs.Common.{sym, ◌∙◌}
use Rattle.refusal.proofs.Judge.{judge-none, judge_yes, judge_no}
use Rattle.sets_decoder.proofs.SetsTrials.judge_own.Goals as goal

pub returns-then-is_bad_count : goal.returns-then-is_bad_count
returns-then-is_bad_count c = sym (judge_yes _ _ _ (sym c.is_bad_count.ensures ∙ c.if-is_bad_count.true))

pub returns-then-is_bad_limit : goal.returns-then-is_bad_limit
returns-then-is_bad_limit c =
    sym (judge_no _ _ _ (sym c.is_bad_count.ensures ∙ c.if-is_bad_count.false)
    ∙ judge_yes _ _ _ (sym c.is_bad_limit.ensures ∙ c.if-is_bad_limit.true))

pub returns : goal.returns
returns c =
    sym (judge_no _ _ _ (sym c.is_bad_count.ensures ∙ c.if-is_bad_count.false)
    ∙ judge_no _ _ _ (sym c.is_bad_limit.ensures ∙ c.if-is_bad_limit.false) ∙ judge-none)
