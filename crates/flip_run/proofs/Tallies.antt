-- The trials and steps that an answer carries.
use Rattle.std.specs.Prelude.{Ok, Err}
use Rattle.flip_run.specs.declared.Tally.{Tally}
use Rattle.flip_run.specs.declared.DecodingError.TheVariants.{Refused, NonePassed}
use Rattle.flip_run.specs.Trials.{tally}
use Rattle.flip_run.specs.Clauses.{Decoded}

-- none for a refusal before 16
abbrev pub tally_in : Decoded → Tally
tally_in (Ok t) = t
tally_in (Err (NonePassed t)) = t
tally_in (Err (Refused x)) = tally 0 0
