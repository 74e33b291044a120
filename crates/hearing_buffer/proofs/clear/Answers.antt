-- `hearing_buffer::clear` meets its contract: the definition goes by the code of the state.
use Rattle.std.proofs.Common.{sym, ap, ◌∙◌, arith, List, ℕ, Ok}
use Rattle.refusal.specs.Judge.{refused_or}
use Rattle.refusal.proofs.Passed.{passed_on}
use Rattle.code.specs.Description.{on_description}
use Rattle.hearing.specs.Hearing.{fresh}
use Rattle.hearing_state.specs.State.{refused_in, with_hearing}
use Rattle.hearing_buffer.specs.Lent.{state_in, answer_in}
use Rattle.hearing_buffer.proofs.Bytes.{clear_bytes}
use Rattle.hearing_buffer.proofs.InPlace.{code-size}
use Rattle.hearing_buffer.proofs.clear.Goals as goal
use Rattle.code.specs.Clauses.{Description}
use Rattle.hearing_buffer.specs.Clauses.{Kept}

-- the answer and the bytes, by the code of the state
abbrev by : List ℕ → Description → Kept × List ℕ
by b a = answer_in (on_description a (refused_in (state_in b)) (λ c. (Ok tt, with_hearing (state_in b) fresh))) b

pub returns-in_err-code_in : goal.returns-in_err-code_in
unfolding refused_or
returns-in_err-code_in c =
    let b = c.args.buffer.now in
    ap (λ (r : Kept). (r, b)) (passed_on _ _ c.from_residual.ensures) ∙ sym (ap (by b) (sym c.code_in.ensures ∙ c.in_err-code_in.was))

pub clear_from-requires : goal.clear_from-requires
clear_from-requires c = omega (arith, code-size c.args.buffer.now _ (sym c.code_in.ensures ∙ c.in_ok-code_in.was))

pub returns : goal.returns
unfolding refused_or
returns c =
    let b = c.args.buffer.now in
    ap (λ (l : List ℕ). (Ok 0, l)) (c.clear_from.ensures ∙ clear_bytes b (code-size b _ (sym c.code_in.ensures ∙ c.in_ok-code_in.was)))
    ∙ sym (ap (by b) (sym c.code_in.ensures ∙ c.in_ok-code_in.was))
