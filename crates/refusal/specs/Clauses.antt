-- What only contracts below the public operations cite. Nothing here need be believed.
use Rattle.std.specs.Prelude.{Result}
use Rattle.refusal.specs.declared.Refusal.{Refusal}

-- what the tests of a call say: that no refusal applies, or the first that does
abbrev pub Judgement : Type 0
Judgement = Result Unit Refusal
