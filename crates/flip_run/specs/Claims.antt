-- What the theorems of this crate, and of the decoders, state of the answer to a run of trials.
use Rattle.std.specs.Prelude.{Bool, true, false, Err, Ok, Result}
use Rattle.flip_run.specs.declared.DecodingError.TheVariants.{NonePassed, Refused}
use Rattle.flip_run.specs.declared.Tally.{Tally}
use Rattle.flip_run.specs.declared.DecodingError.{DecodingError}

-- whether an answer comes from a run of trials: no refusal before 16. A call is well-formed exactly if its answer does: `well_formed_exactly` of
-- decoder/proofs/Decoder.antt.
abbrev pub of_run : Result Tally DecodingError → Bool
of_run (Ok passed) = true
of_run (Err (NonePassed failed)) = true
of_run (Err (Refused x)) = false
