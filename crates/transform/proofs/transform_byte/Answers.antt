-- All 256 bytes are computed.
use Rattle.std.proofs.Common.{ℕ, ◌*◌, ◌%◌, true, eqb, refl}
use Rattle.std.proofs.lemmas.Bool.{agree_below_at, eqb-true}
use lib.Bits.{bit_xor, bit_and}
use Rattle.bits.specs.Bit.{number}
use Rattle.transform.specs.Transform.{covers, parity}
use Rattle.transform.specs.Clauses.{transformed_byte}
use Rattle.transform.proofs.transform_byte.Goals as goal

-- what the code computes: a layer's right halves, moved to their left halves
abbrev layer : ℕ → ℕ → ℕ → ℕ
layer x up left = bit_xor x (bit_and (x * up % 256) left)

abbrev computed : ℕ → ℕ
computed x = layer (layer (layer x 2 170) 4 204) 16 240

pub returns : goal.returns
unfolding number parity covers
returns c = eqb-true _ _ (agree_below_at (λ x. eqb (computed x) (transformed_byte x)) (λ x. true) 256 c.args.byte refl c.ranges.byte.fits)
