-- The sum of two values in −31..31 as bytes.
use Rattle.std.proofs.Common.{◌≡◌, ℕ, suc, min, ◌-◌, ◌%◌, ◌<◌, refl, ap, ◌∙◌, arith, w8}
use Rattle.std.specs.Prelude.{ℤ, pos, negsuc}
use Rattle.std.specs.Int.{cast_signed, cast_unsigned, int_max, int_min}
use Rattle.std.proofs.lemmas.Int.{ints, clamps}
use Rattle.channel.specs.Channel.{channel_value, byte_of, clip}
use Rattle.channel.proofs.Bytes.{minus_byte}

-- a byte's number
pub signed_is : (a : ℕ) → a < 256 → cast_signed w8 a ≡ channel_value a
unfolding channel_value
signed_is a h = grind (arith, ints)

-- a number that is clipped, as a byte
pub clip_is : (z : ℤ) → cast_unsigned w8 (int_max (negsuc 30) (int_min z (pos 31))) ≡ byte_of (clip z)
clip_is (pos n) = omega (arith, ints, clamps)
clip_is (negsuc n) =
    let e : int_max (negsuc 30) (int_min (negsuc n) (pos 31)) ≡ negsuc (min 30 n) = omega (arith, ints, clamps) in
    let k : cast_unsigned w8 (negsuc (min 30 n)) ≡ (256 - min 31 (suc n)) % 256 = omega (arith, ints) in
    ap (cast_unsigned w8) e ∙ k ∙ minus_byte (min 31 (suc n)) (min 31 (suc n)) refl (omega arith)
