-- Published check values, by computation.
use mathlib.Core.Path.{◌≡◌, refl}
use mathlib.Core.List.{List, [], ◌∷◌}
use Prim.Native.Nat.{ℕ}
use Rattle.laws.specs.Table.{table}
use Rattle.bits.specs.Bit.{bits_of}
use Rattle.bits.specs.Packing.{unpacked}
use Rattle.crc.specs.Check.{check_of}

-- Document 01, "Vectors at the edges": a lone 1 with r = 11 and the polynomial z^11 + z^10 + z^9 + z^5 + 1.
abbrev pub StarredCheck : Type 0
StarredCheck = check_of (bits_of 11 0x621) (bits_of 11 0) (1 ∷ []) ≡ bits_of 11 0x621

pub lone_one : StarredCheck
unfolding check_of
lone_one = refl

-- the bits of the string 123456789, the highest of each byte first
abbrev digits : List ℕ
digits = unpacked (0x31 ∷ 0x32 ∷ 0x33 ∷ 0x34 ∷ 0x35 ∷ 0x36 ∷ 0x37 ∷ 0x38 ∷ 0x39 ∷ []) 72

-- CRC-16/XMODEM
pub xmodem : check_of (bits_of 16 0x1021) (bits_of 16 0) digits ≡ bits_of 16 0x31C3
unfolding check_of unpacked table
xmodem = refl

-- CRC-8
pub crc_8 : check_of (bits_of 8 0x07) (bits_of 8 0) digits ≡ bits_of 8 0xF4
unfolding check_of unpacked table
crc_8 = refl

-- CRC-16/IBM-3740: the register starts at FFFF
pub ibm_3740 : check_of (bits_of 16 0x1021) (bits_of 16 0xFFFF) digits ≡ bits_of 16 0x29B1
unfolding check_of unpacked table
ibm_3740 = refl
