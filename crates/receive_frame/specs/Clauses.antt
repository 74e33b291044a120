-- What only contracts below the public operations cite. Nothing here need be believed.
use Rattle.std.specs.Prelude.{List, ℕ}
use Rattle.receive_frame.specs.Frame.{answer_line}
use Rattle.flip_run.specs.Clauses.{Decoded}

-- the line of a decoder's answer and of the output that it left
abbrev pub line_of_answer : Decoded × List ℕ → List ℕ
line_of_answer answer = answer_line answer.0 answer.1
