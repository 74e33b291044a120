-- The starred rows of document 01 on descriptions, by computation.
use mathlib.Core.Path.{◌≡◌, refl}
use mathlib.Core.List.{List, [], ◌∷◌}
use Prim.Native.Nat.{ℕ}
use Rattle.refusal.specs.Judge.{judge, refused_or}
use Rattle.bits.specs.Mask.{ones_below}
use Rattle.code.specs.declared.Code.{Code}
use Rattle.code.specs.Description.{describe_up_to, describe}
use Rattle.refusal.specs.declared.Refusal.TheVariants.{NoPayload}
use Rattle.std.specs.Prelude.{Err, Ok}

-- D of document 01, with a last byte of choice, `E8` in D itself
abbrev pub starred_d : ℕ → List ℕ
starred_d mask = 0x09 ∷ 0x00 ∷ 0x01 ∷ 0x00 ∷ 0x03 ∷ 0x01 ∷ 0x01 ∷ 0x00 ∷ mask ∷ []

abbrev pub D : List ℕ
D = starred_d 0xE8

-- V of document 01: -1, 3, 2, 2, -2, -2, 3, with a last byte of choice, 2 in V itself
abbrev pub starred_v : ℕ → List ℕ
starred_v last = 0xFF ∷ 0x03 ∷ 0x02 ∷ 0x02 ∷ 0xFE ∷ 0xFE ∷ 0x03 ∷ last ∷ []

-- n = 3, r = 1, the polynomial z + 1, and start 0
abbrev pub starred_code : ℕ → Code
starred_code k = record { n = 3; r = 1; polynomial = 1; start = 0; k = k }

-- D has N = 2^3 and k = 3; with `C0` k is 1; with `80` it is refused
abbrev pub StarredDescriptions : Type 0
StarredDescriptions =
    (describe D ≡ Ok (starred_code 3)) × (describe (starred_d 0xC0) ≡ Ok (starred_code 1)) × (describe (starred_d 0x80) ≡ Err NoPayload)

pub starred_descriptions : StarredDescriptions
unfolding describe_up_to judge refused_or ones_below
starred_descriptions = (refl, refl, refl)
