-- Every answer of every export is read back from its number.
use Rattle.flip_trial.specs.declared.Restart.TheVariants.{Root, AfterFlip}
use Rattle.hearing_buffer.specs.Lent.{state_in}
use Rattle.polar_number.proofs.Fields.{number-fields}
use Rattle.polar.specs.Claims.{ReadBack}
use Rattle.polar.proofs.Fitting.{encoded-fits, resumed-fits, decoded_fits, opened-fits, added-fits, cleared-fits, held_fits, previewed-fits}

pub read_back : ReadBack
read_back = (
  λ d payload output. number-fields _ (encoded-fits d payload output),
  λ d channel prefix output. number-fields _ (resumed-fits d channel prefix output),
  λ p restart d channel output. number-fields _ (decoded_fits p restart d channel output),
  λ d b. number-fields _ (opened-fits d b),
  λ b channel. number-fields _ (added-fits b channel),
  λ b. number-fields _ (cleared-fits b),
  λ b limit output. number-fields _ (held_fits Root (state_in b) limit output),
  λ b limit output. number-fields _ (held_fits AfterFlip (state_in b) limit output),
  λ b channel limit output. number-fields _ (previewed-fits b channel limit output),
)
