-- What `respond` answers, by what the record is.
use Rattle.std.proofs.Common.{◌≡◌, Bool, true, false, cond, List, ℕ, eqb, refl, sym, ap, ◌∙◌, subst, arith}
use Rattle.code.specs.Description.{word, is_description}
use Rattle.receive_lines.specs.Line.{skip_line}
use Rattle.receive_lines.specs.Clauses.{PutPost}
use Rattle.receive_lines.proofs.Putting.{length_put, take_put}
use Rattle.receive_frame.specs.Frame.{channel_line}
use Rattle.receive_record.specs.declared.held.Held.{Held}
use Rattle.receive_record.specs.declared.kind.Kind.{Kind}
use Rattle.receive_record.specs.declared.kind.Kind.TheVariants.{Description, Channel, Other}
use Rattle.receive_record.specs.declared.Header.{Header}
use Rattle.receive_record.specs.Clauses.{RespondPost, held_bytes, header_of}
use Rattle.receive_record.specs.Respond.{description_response, responded}

-- a line that is put, beside what is held
pub line_put : {before after : Held} {text w w' : List ℕ} {end : ℕ} → after.buffer.ghost_name ≡ before.buffer.ghost_name → PutPost w 0 text w' end → RespondPost before (text, held_bytes after) w' after end
line_put {after = after} e p = record {
  same_buffer = e;
  line_fits = omega (arith, p.fits, length_put p);
  answer_is = ap (λ (x : List ℕ). (x, held_bytes after)) (take_put p);
}

-- an answer that equals another
pub answer_equal : {before after : Held} {a b : List ℕ × List ℕ} {line : List ℕ} {end : ℕ} → a ≡ b → RespondPost before a line after end → RespondPost before b line after end
answer_equal {before} {after} {line = line} {end} e p = subst (λ (x : List ℕ × List ℕ). RespondPost before x line after end) e p

abbrev by_kind : List ℕ → List ℕ → Kind → List ℕ × List ℕ
by_kind held bytes (Description number) = description_response held bytes
by_kind held bytes Channel = (channel_line held bytes, held)
by_kind held bytes (Other number) = (skip_line number, held)

-- the tests of the definition find the kind
by_tests : (held bytes : List ℕ) (description channel : Bool) (number : ℕ)
    → by_kind held bytes (cond description (Description number) (cond channel Channel (Other number)))
    ≡ cond description (description_response held bytes) (cond channel (channel_line held bytes, held) (skip_line number, held))
by_tests held bytes true channel number = refl
by_tests held bytes false true number = refl
by_tests held bytes false false number = refl

-- the answer, from the kind that a header has
pub responded_is : (held bytes : List ℕ) {header : Header} {kind : Kind} → header ≡ header_of bytes → header.kind ≡ kind → by_kind held bytes kind ≡ responded held bytes
unfolding responded
responded_is held bytes e k =
    let number = word bytes 2 in
    let is = sym k ∙ ap (λ (h : Header). h.kind) e in
    ap (by_kind held bytes) is ∙ by_tests held bytes (is_description number) (eqb number 2) number
