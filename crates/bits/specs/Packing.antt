-- Document 01, "Check and encoder": packing. Highest bit first, and unused low bits of the last byte are zero.
use Rattle.std.specs.Prelude.{List, ℕ, ◌+◌, ◌-◌, ◌*◌, ◌/◌, ◌%◌, ◌^◌, length, get_or}
use Rattle.laws.specs.Table.{table}
use Rattle.bits.specs.Bit.{bit, number}

-- the bytes that k bits take: k / 8, rounded up
abbrev pub bytes_for : ℕ → ℕ
bytes_for k = (k + 7) / 8

-- byte m of the packed bits: bits 8m, …, 8m + 7, with zeros after the last bit
abbrev pub packed_byte : List ℕ → ℕ → ℕ
packed_byte bits m = number (λ b. get_or bits (8 * m + b) 0) 8

-- bits, packed into as many bytes as they take
unfoldable pub packed : List ℕ → List ℕ
packed bits = table (packed_byte bits) (bytes_for (length bits))

-- the first k bits of the bytes
unfoldable pub unpacked : List ℕ → ℕ → List ℕ
unpacked bytes k = table (λ i. bit (get_or bytes (i / 8) 0) (7 - i % 8)) k

-- the low bits of the last byte that k bits leave unused
abbrev pub unused_bits : List ℕ → ℕ → ℕ
unused_bits bytes k = get_or bytes (k / 8) 0 % 2 ^ (8 - k % 8)
