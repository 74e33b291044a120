-- Document 01, "Vectors at the edges": the row on scale 1.
use mathlib.Core.Path.{◌≡◌, refl}
use mathlib.Core.List.{List, [], ◌∷◌}
use Prim.Native.Nat.{ℕ}
use lib.Ieee.{Float, binary32, of_bits, mul, lt, is_nan}
use Rattle.laws.specs.First.{first_where}
use Rattle.laws.specs.Table.{table}
use Rattle.refusal.specs.Judge.{judge, refused_or}
use Rattle.quantiser_level.specs.Level.{magnitude, quarters, whole, level, is_clipped}
use Rattle.quantiser.specs.Quantise.{larger, peak_of, clipped_of, valid_scale, quantised}
use Rattle.std.specs.Prelude.{Ok}
use Rattle.quantiser.specs.Clauses.{Quantised}

-- 0.125, −0.125, 0.375, 7.8125 and 7.875
abbrev row : List Float
row =
    of_bits binary32 0x3e00_0000
    ∷ of_bits binary32 0xbe00_0000
    ∷ of_bits binary32 0x3ec0_0000
    ∷ of_bits binary32 0x40fa_0000
    ∷ of_bits binary32 0x40fc_0000
    ∷ []

-- 1, −1, 2, 31 and 31, of which the last is clipped
abbrev answer : Quantised × List ℕ
answer = (Ok record { peak = of_bits binary32 0x40fc_0000; clipped = 1 }, 1 ∷ 255 ∷ 2 ∷ 31 ∷ 31 ∷ [])

pub row_is : quantised (of_bits binary32 0x3f80_0000) row (0 ∷ 0 ∷ 0 ∷ 0 ∷ 0 ∷ []) ≡ answer
unfolding of_bits mul lt is_nan judge refused_or table first_where magnitude quarters whole level is_clipped larger peak_of clipped_of valid_scale quantised
row_is = refl
