-- The encoder's examples of document 01, "Vectors at the edges", from the bits u on: under D, indices 3, 5, 6, 7 hold payload, then check.
use mathlib.Core.Path.{◌≡◌, refl}
use mathlib.Core.List.{[], ◌∷◌}
use Rattle.laws.specs.Table.{table}
use Rattle.bits.specs.Bit.{number}
use Rattle.bits.specs.Packing.{packed}
use Rattle.transform.specs.Transform.{covers, parity, transformed}

-- payload A0: the bits 1, 0, 1 and the check 0 give the codeword 5A
pub codeword_A0 : packed (transformed 3 (0 ∷ 0 ∷ 0 ∷ 1 ∷ 0 ∷ 0 ∷ 1 ∷ 0 ∷ [])) ≡ 90 ∷ []
unfolding table number packed covers parity transformed
codeword_A0 = refl

-- payload 80: the bits 1, 0, 0 and the check 1 give the codeword 0F
pub codeword_80 : packed (transformed 3 (0 ∷ 0 ∷ 0 ∷ 1 ∷ 0 ∷ 0 ∷ 0 ∷ 1 ∷ [])) ≡ 15 ∷ []
unfolding table number packed covers parity transformed
codeword_80 = refl
