-- What only contracts below the public operations cite. Nothing here need be believed.
use Rattle.std.specs.Prelude.{◌^◌, ◌<◌, Result, Ok, Err}
use Rattle.flip_run.specs.declared.DecodingError.{DecodingError}
use Rattle.flip_run.specs.declared.DecodingError.TheVariants.{NonePassed, Refused}
use Rattle.polar_number.specs.Number.{Parts, parts, refusal_parts}

-- each part fits its bits of the number
pub record Fitting (p : Parts) : Type 0 where
  pub refusal_fits : p.refusal < 2 ^ 8
  pub value_fits : p.value < 2 ^ 24
  pub steps_fits : p.steps < 2 ^ 32

-- the parts of why a decoder writes no payload
abbrev pub error_parts : DecodingError → Parts
error_parts (NonePassed failed) = parts 16 failed.trials failed.steps
error_parts (Refused x) = refusal_parts x

-- the parts of an answer, by those of what a call made and of why it made nothing
abbrev pub answer_parts : {T E : Type 0} → (T → Parts) → (E → Parts) → Result T E → Parts
answer_parts made error (Ok x) = made x
answer_parts made error (Err x) = error x
