-- What the exports of functions below the public operations promise. Nothing here need be believed.
use Rattle.std.specs.Prelude.{ℕ, ◌*◌, Bool, true, ◌&&◌, cond, List, [], ◌∷◌, ltb, eqb, length}
use Rattle.bits.specs.Packing.{bytes_for, packed, unpacked}
use Rattle.bits.specs.Mask.{mask_bit, ones_in}
use Rattle.laws.specs.Clauses.{splice}
use Rattle.arrays.specs.Claims.{longest_bytes}
use Rattle.walk.specs.Walked.{walked}
use Rattle.placing.specs.Place.{placed, taken}

-- whether each number is 0 or 1
abbrev pub all_bits : List ℕ → Bool
all_bits [] = true
all_bits (x ∷ xs) = ltb x 2 && all_bits xs

-- 0 with the packed bits; 1 with the output as it was if some number is no bit or the output has the wrong length
abbrev pub packing : List ℕ → List ℕ → ℕ × List ℕ
packing bits bytes = cond (all_bits bits && eqb (length bytes) (bytes_for (length bits))) (0, packed bits) (1, bytes)

-- 0 with the bits; 1 with the output as it was if it has room for more bits than the bytes have
abbrev pub unpacking : List ℕ → List ℕ → ℕ × List ℕ
unpacking bytes bits = cond (ltb (8 * length bytes) (length bits)) (1, bits) (0, unpacked bytes (length bits))

-- the bit at an index of a mask, or 2 if the mask is shorter
abbrev pub bit_at : List ℕ → ℕ → ℕ
bit_at mask i = cond (ltb i (8 * length mask)) (mask_bit mask i) 2

-- the largest number: the answer to a call that is not admitted
abbrev none : ℕ
none = 0xffff_ffff_ffff_ffff

-- how many ones a mask has; `none` if it is longer than 65,536 bytes
abbrev pub ones_answer : List ℕ → ℕ
ones_answer mask = cond (ltb 65536 (length mask)) none (ones_in mask)

-- the looks of a walk along the whole mask
abbrev looks_along : List ℕ → ℕ
looks_along mask = (walked mask (8 * length mask)).looks

-- its looks, with the message placed; `none` with the output as it was if the mask is longer than that of the longest code, the output or the
-- array of bits is too short, or some number is no bit
abbrev pub placing_answer : List ℕ → List ℕ → List ℕ → ℕ × List ℕ
placing_answer mask message u =
    cond (ltb longest_bytes (length mask)) (none, u)
    (cond (ltb (length u) (length mask)) (none, u)
    (cond (ltb (length message) (8 * length mask)) (none, u)
    (cond (all_bits message) (looks_along mask, splice u 0 (packed (placed mask message (8 * length mask)))) (none, u))))

-- the looks, with the message taken out; `none` with the output as it was if bits or output are shorter than N
abbrev pub taking_answer : List ℕ → List ℕ → List ℕ → ℕ × List ℕ
taking_answer mask u message =
    cond (ltb (length u) (8 * length mask)) (none, message)
    (cond (ltb (length message) (8 * length mask)) (none, message)
    (looks_along mask, splice message 0 (taken mask u (8 * length mask))))
