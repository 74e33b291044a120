-- `quantiser::is_valid` meets its contract.
use lib.Ieee.{of_bits, nan_bits}
use Rattle.quantiser.specs.Quantise.{valid_scale}
use Rattle.quantiser.proofs.is_valid.Statement.{statement}
use Rattle.quantiser.proofs.is_valid.Tie as tie

-- the pattern of the infinity
infinity : tie.Need-float_from_bits-result
unfolding nan_bits
infinity c = tt

returns : tie.Need-returns-then-scale
unfolding of_bits valid_scale
returns c = simp c.if-scale.true

returns-2 : tie.Need-returns-else-scale
unfolding of_bits valid_scale
returns-2 c = simp c.if-scale.false

pub is_valid_spec : {M : Type 1} → statement M
is_valid_spec = tie.close (tie.spec infinity returns returns-2)
