-- What the input prints: its records' lines in order, then the last lines.
use mathlib.Core.Path.{◌≡◌, refl, sym, ap, ◌∙◌}
use mathlib.Core.Bool.{Bool, false, cond}
use mathlib.Core.List.{List, [], ◌∷◌, ◌++◌, append_assoc}
use Prim.Native.Nat.{ℕ, suc, ◌+◌}
use native.Mathlib.Nat.{add-zero, zero-add}
use native.Mathlib.Omega.{arith}
use borrow.Author.Tests.{ne_eqb}
use lib.ListN.{length}
use Rattle.receive_lines.specs.Line.{cut_line, end_line}
use Rattle.receive_record.specs.Respond.{responded}
use Rattle.receive_stream.specs.Stream.{starts_whole, records_in, records_of, responses, ending, printed_from, printed}
use Rattle.receive_stream.specs.Claims.{IsRecord, held_after}
use Rattle.receive_stream.proofs.Split.{records_none, records_first}

-- what records and what is left print
abbrev text : List ℕ → ℕ → List (List ℕ) × List ℕ → List ℕ
text held count r = responses held r.0 ++ ending r.1 (count + length r.0)

-- at the end of the input
pub printed-end : (held : List ℕ) (count : ℕ) → printed_from held count [] ≡ end_line count
unfolding printed_from records_in responses
printed-end held count = ap end_line (add-zero count)

-- no whole record comes first
pub printed_cut : (held : List ℕ) (count : ℕ) (input : List ℕ) → starts_whole input ≡ false → (length input ≡ 0 → ⊥) → printed_from held count input ≡ cut_line ++ end_line count
unfolding printed_from responses
printed_cut held count input e some =
    ap (text held count) (records_none input e) ∙ ap (λ (t : Bool). cond t [] cut_line ++ end_line (count + 0)) (ne_eqb (length input) 0 some) ∙ ap (λ (k : ℕ). cut_line ++ end_line k) (add-zero count)

-- a record comes first
pub printed-first : (held : List ℕ) (count : ℕ) (r rest : List ℕ) → IsRecord r → let a = responded held r in printed_from held count (r ++ rest) ≡ a.0 ++ printed_from a.1 (count + 1) rest
unfolding printed_from responses
printed-first held count r rest p =
    let many : count + suc (length (records_of rest).0) ≡ count + 1 + length (records_of rest).0 = omega arith in
    ap (text held count) (records_first r rest p)
    ∙ append_assoc (responded held r).0 (responses (responded held r).1 (records_of rest).0) _
    ∙ ap (λ (k : ℕ). (responded held r).0 ++ (responses (responded held r).1 (records_of rest).0 ++ ending (records_of rest).1 k)) many

-- the lines of records and of those after them
responses-append : (held : List ℕ) (rs more : List (List ℕ)) → responses held (rs ++ more) ≡ responses held rs ++ responses (held_after held rs) more
unfolding responses
responses-append held [] more = refl
responses-append held (r ∷ rs) more =
    ap (λ (x : List ℕ). (responded held r).0 ++ x) (responses-append (responded held r).1 rs more)
    ∙ sym (append_assoc (responded held r).0 (responses (responded held r).1 rs) (responses (held_after (responded held r).1 rs) more))

-- each line is a record's response, in order: after the lines of the records before it and before those of the records after it
pub line_in_order : (input : List ℕ) (before : List (List ℕ)) (r : List ℕ) (after : List (List ℕ)) → (records_of input).0 ≡ before ++ (r ∷ after)
    → let a = responded (held_after [] before) r in printed input ≡ responses [] before ++ (a.0 ++ (responses a.1 after ++ ending (records_of input).1 (length (records_of input).0)))
unfolding printed_from responses
line_in_order input before r after e =
    ap (λ (k : ℕ). responses [] (records_of input).0 ++ ending (records_of input).1 k) (zero-add (length (records_of input).0))
    ∙ ap (λ (rs : List (List ℕ)). responses [] rs ++ ending (records_of input).1 (length (records_of input).0)) e
    ∙ ap (λ (x : List ℕ). x ++ ending (records_of input).1 (length (records_of input).0)) (responses-append [] before (r ∷ after))
    ∙ append_assoc (responses [] before) _ _
    ∙ ap (λ (x : List ℕ). responses [] before ++ x) (append_assoc (responded (held_after [] before) r).0 _ _)
