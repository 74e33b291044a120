-- `pass_resume::resume_by` meets its contract: the definition goes by the judgement.
use Rattle.std.proofs.Common.{sym, ap, ap₂, ◌∙◌, List, ℕ, Ok, Err}
use Rattle.refusal.proofs.Judge.{refused_by}
use Rattle.refusal.proofs.Passed.{passed_on}
use Rattle.pass_tree.specs.declared.Work.{Work}
use Rattle.pass_tree.specs.Node.{Out}
use Rattle.pass_resume.specs.Resume.{resumed_by}
use Rattle.pass_resume.specs.Clauses.{resume_pass, Resumed}
use Rattle.pass_resume.proofs.WellFormed.{fine_well_formed, well_formed_answer}
use Rattle.pass_resume.proofs.resume_by.Goals as goal

pub returns-in_err-judge_resuming : goal.returns-in_err-judge_resuming
unfolding resumed_by
returns-in_err-judge_resuming c =
    let x = c.args in
    let m = x.masked.now in
    let o : Out = resume_pass m.mask.now m.code x.channel.now x.prefix.now in
    ap (λ (r : Resumed). (r, x.output.now)) (passed_on _ _ c.from_residual.ensures)
    ∙ sym (refused_by (λ i. (Err i, x.output.now)) (Ok o.work, o.bits) _ _ (sym c.judge_resuming.ensures ∙ c.in_err-judge_resuming.was))

pub resume_pass-requires : goal.resume_pass-requires
resume_pass-requires c =
    let x = c.args in
    let m = x.masked.now in
    (fine_well_formed m.mask.now m.code x.channel.now x.prefix.now x.output.now (sym c.judge_resuming.ensures ∙ c.in_ok-judge_resuming.was), c.requires)

pub returns : goal.returns
returns c =
    let x = c.args in
    let m = x.masked.now in
    let d = c.resume_pass.ensures in
    ap₂ (λ (w : Work) (bits : List ℕ). (Ok w, bits)) d.0 d.1
    ∙ sym (well_formed_answer m.mask.now m.code x.channel.now x.prefix.now x.output.now
    (fine_well_formed m.mask.now m.code x.channel.now x.prefix.now x.output.now (sym c.judge_resuming.ensures ∙ c.in_ok-judge_resuming.was)))
