-- The definition goes by what the description says.
use Rattle.std.proofs.Common.{◌≡◌, Ok, List, ℕ, refl, sym, ap, ap₂, ◌∙◌, arith}
use Rattle.laws.proofs.Powers.{one_shl}
use Rattle.refusal.specs.Judge.{number_of}
use Rattle.code.specs.Code.{code_length}
use Rattle.code.specs.Description.{describe, on_description}
use Rattle.code.specs.Claims.{Described}
use Rattle.code.proofs.Facts.{described}
use Rattle.code.proofs.Room.{description-most}
use Rattle.receive_lines.specs.Line.{code_line, no_line}
use Rattle.receive_record.specs.Clauses.{held_bytes}
use Rattle.receive_record.specs.Respond.{description_response}
use Rattle.receive_record.proofs.Answers.{line_put, answer_equal}
use Rattle.receive_record.proofs.respond_description.Goals as goal
use Rattle.receive_record.proofs.respond_description.Goals.{In-Ok}
use Rattle.code.specs.Clauses.{Description}

-- the definition, by an answer of `describe`
abbrev by : List ℕ → List ℕ → Description → List ℕ × List ℕ
by held bytes a = on_description a (λ x. (no_line (number_of x), held)) (λ c. (code_line (code_length c) c.k c.r, bytes))

-- the code that was accepted
facts : (c : In-Ok) → Described c.args.bytes.now c.in-Ok.code
facts c = described c.args.bytes.now c.in-Ok.code (sym c.read_description.ensures ∙ c.in-Ok.is)

pub hold-requires : goal.hold-requires
hold-requires c = description-most (facts (goal.at.hold-requires c).In-Ok)

pub overflow_shl-code : goal.overflow_shl-code
overflow_shl-code c = omega (arith, (facts (goal.at.overflow_shl-code c).In-Ok).coded.n_most)

pub returns-in-Ok : goal.returns-in-Ok
unfolding description_response
returns-in-Ok c =
    let d = c.args.bytes.now in
    let code = c.in-Ok.code in
    let accepted : Ok code ≡ describe d = sym c.in-Ok.is ∙ c.read_description.ensures in
    answer_equal
    (ap₂ (λ (size : ℕ) (x : List ℕ). (code_line size code.k code.r, x)) (one_shl code.n 64 (omega (arith, (described d code (sym accepted)).coded.n_most))) c.hold.ensures.held
    ∙ ap (by (held_bytes c.args.held.now) d) accepted)
    (line_put c.hold.ensures.same_buffer c.put_code.ensures)

pub returns-in-Err : goal.returns-in-Err
unfolding description_response
returns-in-Err c =
    answer_equal (ap (by (held_bytes c.args.held.now) c.args.bytes.now) (sym c.in-Err.is ∙ c.read_description.ensures))
    (line_put refl c.put_refusal.ensures)
