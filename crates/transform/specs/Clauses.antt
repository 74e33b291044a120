-- What only contracts below the public operations cite. Nothing here need be believed.
use Rattle.std.specs.Prelude.{List, ◌++◌, ℕ, zero, suc, ◌^◌, ◌+◌, ◌≤◌, get_or, take, drop, length, ◌≡◌}
use Rattle.std.specs.Int.Bits.{bit_xor}
use Rattle.laws.specs.Table.{table}
use Rattle.laws.specs.Clauses.{segment}
use Rattle.bits.specs.Bit.{bits_of, number}
use Rattle.bits.specs.Claims.{Bits}
use Rattle.transform.specs.Transform.{code_bit}

-- the exclusive-or of two lists of h numbers
unfoldable pub xor_bytes : ℕ → List ℕ → List ℕ → List ℕ
xor_bytes h a b = table (λ j. bit_xor (get_or a j 0) (get_or b j 0)) h

-- the transform in its recursive form, on numbers of any width: left half and right half first, then both combined
unfoldable pub folded : ℕ → List ℕ → List ℕ
folded zero u = u
folded (suc n) u =
    let h = 2 ^ n in
    let r = folded n (drop h u) in
    xor_bytes h (folded n (take h u)) r ++ r

-- the byte whose bits are the transform of the bits of x, highest bit first
abbrev pub transformed_byte : ℕ → ℕ
transformed_byte x = number (code_bit 3 (bits_of 8 x)) 8

-- n numbers from `base` on, within an array of `size` bytes
pub record BytesAt (size : ℕ) (bytes : List ℕ) (base n : ℕ) : Type 0 where
  pub whole : length bytes ≡ size
  pub fits : base + n ≤ size

-- n bits from `base` on, within an array of `size` bytes
pub record BitsAt (size : ℕ) (bytes : List ℕ) (base n : ℕ) : Type 0 where
  pub whole : length bytes ≡ size
  pub fits : base + n ≤ size
  pub bits : Bits (segment bytes base n)
