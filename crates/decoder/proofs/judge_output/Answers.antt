-- `decoder::judge_output` meets its contract.
use Rattle.std.proofs.Common.{sym, ap, ◌∙◌, not}
use borrow.Author.Tests.{eq-eqb, ne_eqb}
use Rattle.refusal.proofs.Judge.{judge-none, judge_yes, judge_no}
use Rattle.decoder.proofs.judge_output.Goals as goal

pub returns-then-output-bytes_for : goal.returns-then-output-bytes_for
returns-then-output-bytes_for c = sym (judge_yes _ _ _ (ap not (ne_eqb _ _ (λ q. c.if-output-bytes_for.true (q ∙ sym c.bytes_for.ensures)))))

pub returns : goal.returns
returns c = sym (judge_no _ _ _ (ap not (eq-eqb _ _ (c.if-output-bytes_for.false ∙ c.bytes_for.ensures))) ∙ judge-none)
