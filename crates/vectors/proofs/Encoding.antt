-- The starred rows of document 01 on encoding, by computation.
use mathlib.Core.Path.{◌≡◌, refl}
use mathlib.Core.List.{[], ◌∷◌}
use Prim.Native.Nat.{ℕ}
use Rattle.laws.specs.Table.{table}
use Rattle.refusal.specs.Judge.{judge, refused_or}
use Rattle.bits.specs.Bit.{number}
use Rattle.bits.specs.Mask.{ones_below}
use Rattle.bits.specs.Packing.{packed, unpacked}
use Rattle.code.specs.Description.{describe_up_to}
use Rattle.vectors.proofs.Descriptions.{D}
use Rattle.crc.specs.Check.{check_of}
use Rattle.transform.specs.Transform.{covers, parity, transformed}
use Rattle.placing.specs.Place.{placed}
use Rattle.encoder.specs.Encode.{codeword, encoded_by, encoded}
use Rattle.std.specs.Prelude.{Err, Ok}
use Rattle.refusal.specs.declared.Refusal.TheVariants.{UnusedBit}

-- under D `A0` encodes to `5A`, and `80` to `0F`; `B0` is refused and leaves the output as it was, whatever byte it held
abbrev pub StarredEncoding : ℕ → Type 0
StarredEncoding byte =
    (encoded D (0xA0 ∷ []) (byte ∷ []) ≡ (Ok tt, 0x5A ∷ []))
    × (encoded D (0x80 ∷ []) (byte ∷ []) ≡ (Ok tt, 0x0F ∷ []))
    × (encoded D (0xB0 ∷ []) (byte ∷ []) ≡ (Err UnusedBit, byte ∷ []))

pub starred_encoding : (byte : ℕ) → StarredEncoding byte
unfolding judge refused_or table number ones_below packed unpacked describe_up_to check_of covers parity transformed placed codeword encoded_by encoded
starred_encoding byte = (refl, refl, refl)
