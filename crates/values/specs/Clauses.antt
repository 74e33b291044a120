-- What only contracts below the public operations cite. Nothing here need be believed.
use Rattle.std.specs.Prelude.{cond, ℕ, eqb}
use Rattle.bits.specs.Bit.{bit}
use Rattle.values.specs.Values.{Rule, frozen, usual, opposite}

-- the rule that a byte stands for: bit 0 marks an information index, bit 1 the opposite decision
unfoldable pub rule_of : ℕ → Rule
rule_of code = cond (eqb (bit code 0) 0) frozen (cond (eqb (bit code 1) 0) usual opposite)
