-- The parts of a number do not overlap.
use native.Mathlib.Omega.{arith}
use Rattle.polar_number.specs.Number.{Parts}
use Rattle.polar_number.specs.Claims.{Read}
use Rattle.polar_number.specs.Clauses.{Fitting}

pub number-fields : (p : Parts) → Fitting p → Read p
number-fields p f = record {
  fits = omega (arith, f.refusal_fits, f.value_fits, f.steps_fits);
  refusal_is = omega (arith, f.refusal_fits);
  value_is = omega (arith, f.refusal_fits, f.value_fits);
  steps_is = omega (arith, f.refusal_fits, f.value_fits);
}
