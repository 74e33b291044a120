-- Document 01, "Program `receive`": what is done with one record, from the held description and the record's bytes. The held description is
-- the empty list if none is held: no accepted description is empty.
use Rattle.std.specs.Prelude.{cond, List, ℕ, eqb}
use Rattle.refusal.specs.Judge.{number_of}
use Rattle.code.specs.Code.{code_length}
use Rattle.code.specs.Description.{word, is_description, describe, on_description}
use Rattle.receive_lines.specs.Line.{code_line, no_line, skip_line}
use Rattle.receive_frame.specs.Frame.{channel_line}

-- a description: if it is accepted, `code N k r` is printed and it is held; a refused one changes nothing
unfoldable pub description_response : List ℕ → List ℕ → List ℕ × List ℕ
description_response held bytes =
    on_description (describe bytes) (λ x. (no_line (number_of x), held)) (λ c. (code_line (code_length c) c.k c.r, bytes))

-- the line that is printed, and the description that is held afterwards
unfoldable pub responded : List ℕ → List ℕ → List ℕ × List ℕ
responded held bytes =
    let kind = word bytes 2 in
    cond (is_description kind) (description_response held bytes) (cond (eqb kind 2) (channel_line held bytes, held) (skip_line kind, held))
