-- `hearing_buffer::decode` meets its contract: the definition goes by the code of the state.
use Rattle.std.proofs.Common.{sym, ap, ◌∙◌, List, ℕ, Err}
use Rattle.refusal.proofs.Passed.{passed_on}
use Rattle.code.specs.Description.{on_description}
use Rattle.flip_run.specs.declared.Terms.{Terms}
use Rattle.flip_run.specs.declared.DecodingError.TheVariants.{Refused}
use Rattle.decoder.specs.Decoder.{single, decoded_as}
use Rattle.hearing.specs.Hearing.{combined}
use Rattle.hearing_state.specs.State.{description_of}
use Rattle.hearing_buffer.specs.Lent.{state_in}
use Rattle.hearing_buffer.proofs.decode.Goals as goal
use Rattle.code.specs.Clauses.{Description}
use Rattle.flip_run.specs.Clauses.{Decoded}

-- the answer, by the code of the state
abbrev by : Terms → List ℕ → List ℕ → Description → Decoded × List ℕ
by terms b output a =
    let t = state_in b in
    on_description a (λ r. (Err (Refused r), output)) (λ c. decoded_as (single terms.limit) terms.restart (description_of t) (combined c t.hearing) output)

pub returns-in_err-code : goal.returns-in_err-code
returns-in_err-code c =
    let x = c.args in
    ap (λ (r : Decoded). (r, x.output.now)) (passed_on _ _ c.from_residual.ensures)
    ∙ sym (ap (by x.terms x.buffer.now x.output.now) (sym c.code_in.ensures ∙ c.in_err-code.was))

pub decode_under-requires : goal.decode_under-requires
decode_under-requires c = sym c.code_in.ensures ∙ c.in_ok-code.was

pub returns : goal.returns
returns c =
    let x = c.args in
    c.decode_under.ensures ∙ sym (ap (by x.terms x.buffer.now x.output.now) (sym c.code_in.ensures ∙ c.in_ok-code.was))
