-- `hearing_buffer::add` meets its contract: the definition goes by the code of the state.
use Rattle.std.proofs.Common.{sym, ap, ◌∙◌, List, ℕ}
use Rattle.refusal.specs.Judge.{refused_or}
use Rattle.refusal.proofs.Passed.{passed_on}
use Rattle.code.specs.Description.{on_description}
use Rattle.hearing_state.specs.State.{refused_in}
use Rattle.hearing_state.specs.Clauses.{added_under}
use Rattle.hearing_buffer.specs.Lent.{state_in, answer_in}
use Rattle.hearing_buffer.proofs.add.Goals as goal
use Rattle.code.specs.Clauses.{Description}
use Rattle.hearing_buffer.specs.Clauses.{Kept}

-- the answer and the bytes, by the code of the state
abbrev by : List ℕ → List ℕ → Description → Kept × List ℕ
by b channel a = answer_in (on_description a (refused_in (state_in b)) (λ c. added_under c (state_in b) channel)) b

pub returns-in_err-code : goal.returns-in_err-code
unfolding refused_or
returns-in_err-code c =
    let x = c.args in
    ap (λ (r : Kept). (r, x.buffer.now)) (passed_on _ _ c.from_residual.ensures)
    ∙ sym (ap (by x.buffer.now x.channel.now) (sym c.code_in.ensures ∙ c.in_err-code.was))

pub add_under-requires : goal.add_under-requires
add_under-requires c = sym c.code_in.ensures ∙ c.in_ok-code.was

pub returns : goal.returns
returns c =
    let x = c.args in
    c.add_under.ensures ∙ sym (ap (by x.buffer.now x.channel.now) (sym c.code_in.ensures ∙ c.in_ok-code.was))
