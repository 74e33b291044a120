-- Document 01, "Code description": the numbers of a code. Its n, r, polynomial, start and k are fields of `Code`.
use Rattle.std.specs.Prelude.{List, ℕ, ◌+◌, ◌/◌, ◌^◌}
use Rattle.arrays.specs.Sizes.{largest_n}
use Rattle.bits.specs.Bit.{bits_of}
use Rattle.code.specs.declared.Code.{Code}
use Rattle.code.specs.Description.{mask_at}

-- N = 2^n
abbrev pub code_length : Code → ℕ
code_length c = 2 ^ c.n

-- K, the number of information indices: k is K - r
abbrev pub information_count : Code → ℕ
information_count c = c.k + c.r

-- the check polynomial without z^r, which is understood: bit i of its field is the coefficient of z^i
abbrev pub divisor : Code → List ℕ
divisor c = bits_of c.r c.polynomial

-- the r coefficients with which the check starts
abbrev pub start_bits : Code → List ℕ
start_bits c = bits_of c.r c.start

-- the bytes of the longest description: the fields of kind 4, and N/8 of mask
abbrev pub longest_description : ℕ
longest_description = mask_at 4 + 2 ^ largest_n / 8
