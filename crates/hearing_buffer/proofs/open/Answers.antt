-- `hearing_buffer::open` meets its contract: the definition goes by the size of the buffer, then by what the description says.
use Rattle.std.proofs.Common.{◌≡◌, sym, ap, ◌∙◌, Bool, true, cond, List, ℕ, length, Ok, Err}
use borrow.Author.Tests.{eq-eqb, ne_eqb}
use Rattle.refusal.specs.declared.Refusal.TheVariants.{NotAState}
use Rattle.refusal.specs.Judge.{refused_or}
use Rattle.refusal.proofs.Passed.{passed_on}
use Rattle.code.specs.Description.{describe, on_description}
use Rattle.code.proofs.Facts.{described}
use Rattle.code.proofs.Room.{description-most}
use Rattle.hearing.specs.Hearing.{fresh}
use Rattle.hearing_state.specs.State.{state_of, no_state, refused_in}
use Rattle.hearing_buffer.specs.Lent.{hearing_size, answer_in, opened_in}
use Rattle.hearing_buffer.proofs.open.Goals as goal
use Rattle.code.specs.Clauses.{Description}
use Rattle.hearing_buffer.specs.Clauses.{Kept}

-- the answer and the bytes, by the test of the size and what the description says
abbrev by : List ℕ → List ℕ → Bool → Description → Kept × List ℕ
by d b t a = cond t (answer_in (on_description a (refused_in no_state) (λ c. (Ok tt, state_of d fresh))) b) (Err NotAState, b)

-- a buffer of the right size: what follows goes by the description
described-as : (d b : List ℕ) (a : Description) → length b ≡ hearing_size → describe d ≡ a → by d b true a ≡ opened_in d b
described-as d b a size e = ap (by d b true) (sym e) ∙ ap (λ (t : Bool). by d b t (describe d)) (sym (eq-eqb _ _ size))

pub returns-then-buffer-ne-HEARING_SIZE : goal.returns-then-buffer-ne-HEARING_SIZE
returns-then-buffer-ne-HEARING_SIZE c =
    let x = c.args in
    ap (λ (t : Bool). by x.description.now x.buffer.now t (describe x.description.now)) (sym (ne_eqb _ _ c.if-buffer-ne-HEARING_SIZE.true))

pub returns-in_err-read_description : goal.returns-in_err-read_description
unfolding refused_or
returns-in_err-read_description c =
    let x = c.args in
    ap (λ (r : Kept). (r, x.buffer.now)) (passed_on _ _ c.from_residual.ensures)
    ∙ described-as x.description.now x.buffer.now _ c.if-buffer-ne-HEARING_SIZE.false (sym c.read_description.ensures ∙ c.in_err-read_description.was)

pub write_fresh-requires : goal.write_fresh-requires
write_fresh-requires c = (description-most (described _ _ (sym c.read_description.ensures ∙ c.in_ok-read_description.was)), c.if-buffer-ne-HEARING_SIZE.false)

pub returns : goal.returns
unfolding refused_or
returns c =
    let x = c.args in
    ap (λ (l : List ℕ). (Ok 0, l)) c.write_fresh.ensures
    ∙ described-as x.description.now x.buffer.now _ c.if-buffer-ne-HEARING_SIZE.false (sym c.read_description.ensures ∙ c.in_ok-read_description.was)
