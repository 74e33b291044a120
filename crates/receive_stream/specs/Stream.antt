-- Document 01, "Program `receive`": what the whole input prints, from its bytes to the bytes printed.
use Rattle.std.specs.Prelude.{Bool, ◌&&◌, cond, List, [], ◌∷◌, ◌++◌, ℕ, zero, suc, ◌+◌, leb, eqb, length, take, drop}
use Rattle.code.specs.Description.{word}
use Rattle.receive_lines.specs.Line.{cut_line, end_line}
use Rattle.receive_record.specs.Respond.{responded}

-- whether the input begins with a whole record: it has length and kind, the length is 4 or more, and the input has that many bytes
abbrev pub starts_whole : List ℕ → Bool
starts_whole input = leb 4 (length input) && (leb 4 (word input 0) && leb (word input 0) (length input))

-- the whole records in order, and what is left after them, if there are at most `most`
unfoldable pub records_in : ℕ → List ℕ → List (List ℕ) × List ℕ
records_in zero input = ([], input)
records_in (suc most) input =
    let more = records_in most (drop (word input 0) input) in
    cond (starts_whole input) (take (word input 0) input ∷ more.0, more.1) ([], input)

-- there are at most as many records as bytes; `records_of_lem` of proofs/Split.antt proves that no whole record is left
abbrev pub records_of : List ℕ → List (List ℕ) × List ℕ
records_of input = records_in (length input) input

-- a line for each record in order, from the description that is held before it
unfoldable pub responses : List ℕ → List (List ℕ) → List ℕ
responses held [] = []
responses held (bytes ∷ more) = let a = responded held bytes in a.0 ++ responses a.1 more

-- the last lines: `cut` if something is left, for then the input ends inside a record or a length is below 4; and `end` with the number of
-- whole records
abbrev pub ending : List ℕ → ℕ → List ℕ
ending left count = cond (eqb (length left) 0) [] cut_line ++ end_line count

-- what is printed for the input if `held` is held and `count` whole records came before it
unfoldable pub printed_from : List ℕ → ℕ → List ℕ → List ℕ
printed_from held count input = let r = records_of input in responses held r.0 ++ ending r.1 (count + length r.0)

-- what the whole input prints: no description is held at first
abbrev pub printed : List ℕ → List ℕ
printed input = printed_from [] 0 input
