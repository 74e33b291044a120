-- What the theorems of this crate state of its definitions.
use Rattle.std.specs.Prelude.{ℕ, List}
use Rattle.encoder.specs.Encode.{encoded}
use Rattle.pass_resume.specs.Resume.{resumed}
use Rattle.flip_trial.specs.declared.Restart.{Restart}
use Rattle.decoder.specs.Decoder.{Decoder, decoded_as}
use Rattle.hearing_buffer.specs.Lent.{opened_in, added_in, cleared_in, full_in, restarted_in}
use Rattle.hearing_preview.specs.Preview.{previewed_in}
use Rattle.polar_number.specs.Number.{encoded_parts, resumed_parts, decoded_parts, kept_parts}
use Rattle.polar_number.specs.Claims.{Read}

-- the parts of every answer of every export can be read back from its number: `read_back` of proofs/Fields.antt
abbrev pub ReadBack : Type 0
ReadBack =
    ((d payload output : List ℕ) → Read (encoded_parts (encoded d payload output).0))
    × ((d channel prefix output : List ℕ) → Read (resumed_parts (resumed d channel prefix output).0))
    × ((p : Decoder) (restart : Restart) (d channel output : List ℕ) → Read (decoded_parts (decoded_as p restart d channel output).0))
    × ((d b : List ℕ) → Read (kept_parts (opened_in d b).0))
    × ((b channel : List ℕ) → Read (kept_parts (added_in b channel).0))
    × ((b : List ℕ) → Read (kept_parts (cleared_in b).0))
    × ((b : List ℕ) (limit : ℕ) (output : List ℕ) → Read (decoded_parts (full_in b limit output).0))
    × ((b : List ℕ) (limit : ℕ) (output : List ℕ) → Read (decoded_parts (restarted_in b limit output).0))
    × ((b channel : List ℕ) (limit : ℕ) (output : List ℕ) → Read (decoded_parts (previewed_in b channel limit output).0))
