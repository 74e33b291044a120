-- `encoder::encode` meets its contract: the definition goes by the description.
use Rattle.std.proofs.Common.{sym, ap, ◌∙◌, List, ℕ, Err}
use Rattle.refusal.proofs.Passed.{passed_on}
use Rattle.code.specs.Description.{mask_of, on_description}
use Rattle.code.specs.Clauses.{Description}
use Rattle.encoder.specs.Encode.{encoded, encoded_by}
use Rattle.encoder.specs.Clauses.{Encoded}
use Rattle.encoder.proofs.encode.Goals as goal

-- the definition, by an answer of `describe`
abbrev by : List ℕ → List ℕ → List ℕ → Description → Encoded × List ℕ
by d payload output a = on_description a (λ x. (Err x, output)) (λ c. encoded_by (mask_of d) c payload output)

pub returns-in_err-masked : goal.returns-in_err-masked
unfolding encoded
returns-in_err-masked c =
    let x = c.args in
    ap (λ (r : Encoded). (r, x.output.now)) (passed_on _ _ c.from_residual.ensures)
    ∙ sym (ap (by x.description.now x.payload.now x.output.now) c.in_err-masked.ensures)

pub returns : goal.returns
unfolding encoded
returns c =
    let x = c.args in
    let m = c.in_ok-masked.masked in
    let read = c.in_ok-masked.ensures in
    c.encode_by.ensures
    ∙ ap (λ (mask : List ℕ). encoded_by mask m.code x.payload.now x.output.now) read.1
    ∙ sym (ap (by x.description.now x.payload.now x.output.now) read.0)
