-- `quantiser::larger_of` meets its contract.
use Rattle.quantiser.specs.Quantise.{larger}
use Rattle.quantiser.proofs.larger_of.Statement.{statement}
use Rattle.quantiser.proofs.larger_of.Tie as tie

returns : tie.Need-returns-then-b-a
unfolding larger
returns c = simp c.if-b-a.true

returns-2 : tie.Need-returns-else-b-a
unfolding larger
returns-2 c = simp c.if-b-a.false

pub larger_of_spec : {M : Type 1} → statement M
larger_of_spec = tie.close (tie.spec returns returns-2)
