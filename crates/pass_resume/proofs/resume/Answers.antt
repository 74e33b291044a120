-- `pass_resume::resume` meets its contract: the definition goes by what the description says.
use Rattle.std.proofs.Common.{sym, ap, ◌∙◌, List, ℕ, Err}
use Rattle.refusal.proofs.Passed.{passed_on}
use Rattle.code.specs.Description.{mask_of, on_description}
use Rattle.code.specs.Clauses.{Description}
use Rattle.pass_resume.specs.Resume.{resumed_by, resumed}
use Rattle.pass_resume.specs.Clauses.{Resumed}
use Rattle.pass_resume.proofs.resume.Goals as goal

-- the definition, by an answer of `describe`
abbrev by : List ℕ → List ℕ → List ℕ → List ℕ → Description → Resumed × List ℕ
by d channel prefix output a = on_description a (λ x. (Err x, output)) (λ c. resumed_by (mask_of d) c channel prefix output)

pub returns-in_err-masked : goal.returns-in_err-masked
unfolding resumed
returns-in_err-masked c =
    let x = c.args in
    ap (λ (r : Resumed). (r, x.output.now)) (passed_on _ _ c.from_residual.ensures)
    ∙ sym (ap (by x.description.now x.channel.now x.prefix.now x.output.now) c.in_err-masked.ensures)

pub returns : goal.returns
unfolding resumed
returns c =
    let x = c.args in
    let read = c.in_ok-masked.ensures in
    c.resume_by.ensures
    ∙ ap (λ (mask : List ℕ). resumed_by mask c.in_ok-masked.masked.code x.channel.now x.prefix.now x.output.now) read.1
    ∙ sym (ap (by x.description.now x.channel.now x.prefix.now x.output.now) read.0)
