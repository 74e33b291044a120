-- Document 02, request 2.7: "Preview an add followed by restarted decoding. Payload, trial, steps or refusal equal those of performing both
-- on a copy; a refused add ends it there. The held values and count must remain those before the preview." So what the add leaves is decoded
-- and then given up.
use Rattle.std.specs.Prelude.{List, ℕ, Err, Ok, Result}
use Rattle.hearing_buffer.specs.Lent.{added_in, restarted_in}
use Rattle.flip_run.specs.declared.DecodingError.TheVariants.{Refused}
use Rattle.flip_run.specs.declared.Tally.{Tally}
use Rattle.flip_run.specs.declared.DecodingError.{DecodingError}
use Rattle.refusal.specs.declared.Refusal.{Refusal}

-- what follows an add to a copy of a buffer, by its answer and the bytes that it leaves in the copy
abbrev pub then_restarted_in : Result ℕ Refusal × List ℕ → ℕ → List ℕ → Result Tally DecodingError × List ℕ
then_restarted_in (Ok count, copy) limit output = restarted_in copy limit output
then_restarted_in (Err x, copy) limit output = (Err (Refused x), output)

-- the preview of an add to the hearing in a buffer
abbrev pub previewed_in : List ℕ → List ℕ → ℕ → List ℕ → Result Tally DecodingError × List ℕ
previewed_in b channel limit output = then_restarted_in (added_in b channel) limit output
