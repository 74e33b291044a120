-- `hearing_preview::preview_under` meets its contract: refusals 12, 13 and 27, then the sums.
use Rattle.std.proofs.Common.{◌≡◌, sym, ap, ◌∙◌, arith, List, ℕ, get_or, Ok}
use Rattle.refusal.specs.Judge.{judge}
use Rattle.refusal.proofs.Passed.{passed_on}
use Rattle.code.specs.declared.Code.{Code}
use Rattle.code.specs.Code.{longest_description}
use Rattle.hearing.specs.Hearing.{add_refusals}
use Rattle.hearing_state.specs.State.{State, code_of_state}
use Rattle.hearing_state.proofs.States.{code-most}
use Rattle.hearing_buffer.specs.Lent.{state_in}
use Rattle.hearing_buffer.proofs.Bytes.{state_at_lem}
use Rattle.hearing_buffer.proofs.InPlace.{code-size}
use Rattle.hearing_preview.proofs.Copy.{preview_refused, preview_fine}
use Rattle.hearing_preview.proofs.preview_under.Goals as goal
use Rattle.flip_run.specs.Clauses.{Decoded}

-- the count is that in the buffer
judged : (code : Code) (b channel : List ℕ) → code_of_state (state_in b) ≡ Ok code
    → judge (add_refusals code (state_in b).hearing.count channel) ≡ judge (add_refusals code (get_or b longest_description 0) channel)
judged code b channel has = ap (λ (t : State). judge (add_refusals code t.hearing.count channel)) (state_at_lem b (code-size b code has))

pub bounds-buffer-at : goal.bounds-buffer-at
bounds-buffer-at c = omega (arith, code-size c.args.buffer.now c.args.code c.requires)

pub judge_add-requires : goal.judge_add-requires
judge_add-requires c = code-most (state_in c.args.buffer.now) c.args.code c.requires

pub returns-in_err-judge_add : goal.returns-in_err-judge_add
returns-in_err-judge_add c =
    let x = c.args in
    ap (λ (r : Decoded). (r, x.output.now)) (passed_on _ _ c.from_residual.ensures)
    ∙ sym (preview_refused x.buffer.now x.channel.now x.limit x.output.now x.code _ c.requires
    (judged x.code x.buffer.now x.channel.now c.requires ∙ sym c.judge_add.ensures ∙ c.in_err-judge_add.was))

pub decode_sums-requires : goal.decode_sums-requires
decode_sums-requires c =
    let x = c.args in
    record { code_is = c.requires; fine = judged x.code x.buffer.now x.channel.now c.requires ∙ sym c.judge_add.ensures ∙ c.in_ok-judge_add.was }

pub returns : goal.returns
returns c =
    let x = c.args in
    c.decode_sums.ensures
    ∙ sym (preview_fine x.buffer.now x.channel.now x.limit x.output.now x.code c.requires
    (judged x.code x.buffer.now x.channel.now c.requires ∙ sym c.judge_add.ensures ∙ c.in_ok-judge_add.was))
