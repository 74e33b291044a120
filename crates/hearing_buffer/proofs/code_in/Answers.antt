-- `hearing_buffer::code_in` meets its contract.
use Rattle.std.proofs.Common.{sym, ap, ◌∙◌, Bool, cond}
use borrow.Author.Tests.{ne_eqb}
use Rattle.hearing_state.specs.State.{no_state, code_of_state}
use Rattle.hearing_state.proofs.States.{no_code}
use Rattle.hearing_buffer.specs.Clauses.{state_at}
use Rattle.hearing_buffer.proofs.InPlace.{parts, state_parts}
use Rattle.hearing_buffer.proofs.code_in.Goals as goal

pub slice_bounds-code_by-end : goal.slice_bounds-code_by-end
slice_bounds-code_by-end c = sym (parts c.args.buffer.now c.if-buffer-eq-HEARING_SIZE.true).description_size

pub code_by-requires : goal.code_by-requires
code_by-requires c = parts c.args.buffer.now c.if-buffer-eq-HEARING_SIZE.true

pub returns-then-buffer-eq-HEARING_SIZE : goal.returns-then-buffer-eq-HEARING_SIZE
returns-then-buffer-eq-HEARING_SIZE c = c.code_by.ensures ∙ ap code_of_state (state_parts c.args.buffer.now c.if-buffer-eq-HEARING_SIZE.true)

pub returns : goal.returns
returns c =
    sym (ap (λ (t : Bool). code_of_state (cond t (state_at c.args.buffer.now) no_state)) (ne_eqb _ _ c.if-buffer-eq-HEARING_SIZE.false) ∙ no_code)
