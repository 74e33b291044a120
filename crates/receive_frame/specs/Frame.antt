-- Document 01, "Program `receive`": the line of a channel record, from the held description and the record's bytes. The held description
-- is the empty list if none is held.
use Rattle.std.specs.Prelude.{List, [], ◌∷◌, ℕ, ltb, eqb, length, drop, replicate, Err, Ok, Result}
use Rattle.refusal.specs.Judge.{judge, refused_or, number_of}
use Rattle.bits.specs.Packing.{bytes_for}
use Rattle.code.specs.Description.{word, describe, on_description}
use Rattle.decoder.specs.Decoder.{decoded_restarted}
use Rattle.receive_lines.specs.Line.{ok_line, no_line}
use Rattle.flip_run.specs.declared.DecodingError.TheVariants.{NonePassed, Refused}
use Rattle.refusal.specs.declared.Refusal.TheVariants.{NoDescription, ShortRecord}
use Rattle.flip_run.specs.declared.Tally.{Tally}
use Rattle.flip_run.specs.declared.DecodingError.{DecodingError}

-- the line of a decoder's answer and the payload that it wrote: refusal 16 is `NonePassed`
abbrev pub answer_line : Result Tally DecodingError → List ℕ → List ℕ
answer_line (Ok passed) payload = ok_line passed.trials passed.steps payload
answer_line (Err (NonePassed failed)) payload = no_line 16
answer_line (Err (Refused x)) payload = no_line (number_of x)

-- restarted decoding under the held description, into as many bytes as its payload takes
unfoldable pub decoding_line : List ℕ → List ℕ → ℕ → List ℕ
decoding_line held channel limit =
    on_description (describe held) (λ x. no_line (number_of x))
    (λ c. let a = decoded_restarted held channel limit (replicate (bytes_for c.k) 0) in answer_line a.0 a.1)

-- a channel record: T is in bytes 4 and 5, the values are in bytes 6 on
unfoldable pub channel_line : List ℕ → List ℕ → List ℕ
channel_line held bytes =
    refused_or (judge ((eqb (length held) 0, NoDescription) ∷ (ltb (length bytes) 6, ShortRecord) ∷ [])) (λ x. no_line (number_of x))
    (decoding_line held (drop 6 bytes) (word bytes 4))
