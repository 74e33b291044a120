-- Document 01, "Code description": the mask. Bit b of byte m, b = 0 being the least bit, stands for index 8m + b.
use Rattle.std.specs.Prelude.{List, ℕ, zero, suc, ◌+◌, ◌*◌, ◌/◌, ◌%◌, length, get_or}
use Rattle.bits.specs.Bit.{bit}

-- one at an information index, zero at a frozen one
abbrev pub mask_bit : List ℕ → ℕ → ℕ
mask_bit mask i = bit (get_or mask (i / 8) 0) (i % 8)

-- how many of the indices below n are information indices: each bit is 0 or 1, so their sum
unfoldable pub ones_below : List ℕ → ℕ → ℕ
ones_below mask zero = 0
ones_below mask (suc n) = ones_below mask n + mask_bit mask n

-- K: how many information indices the mask has
abbrev pub ones_in : List ℕ → ℕ
ones_in mask = ones_below mask (8 * length mask)
