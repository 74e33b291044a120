-- Document 01, "Check and encoder"; document 000, section II-A: the polar transform, x = u·G^(⊗n), in natural order.
-- x_j is the exclusive-or of every u_i for which each one bit of j is also one in i.
use Rattle.std.specs.Prelude.{Bool, true, ◌&&◌, cond, List, ℕ, zero, suc, ◌+◌, ◌%◌, ◌^◌, leb, get_or}
use Rattle.laws.specs.Table.{table}
use Rattle.bits.specs.Bit.{bit}

-- whether each one bit of j, among its n low bits, is also one in i
unfoldable pub covers : ℕ → ℕ → ℕ → Bool
covers zero i j = true
covers (suc n) i j = leb (bit j n) (bit i n) && covers n i j

-- the exclusive-or of the bits f 0, …, f (n - 1)
unfoldable pub parity : (ℕ → ℕ) → ℕ → ℕ
parity f zero = 0
parity f (suc n) = (parity f n + f n) % 2

-- x_j, of the 2^n bits u
abbrev pub code_bit : ℕ → List ℕ → ℕ → ℕ
code_bit n u j = parity (λ i. cond (covers n i j) (get_or u i 0) 0) (2 ^ n)

-- x_0, …, x_(2^n - 1)
unfoldable pub transformed : ℕ → List ℕ → List ℕ
transformed n u = table (code_bit n u) (2 ^ n)

-- the exclusive-or of two lists of h bits, bit by bit
unfoldable pub xors : ℕ → List ℕ → List ℕ → List ℕ
xors h a b = table (λ j. (get_or a j 0 + get_or b j 0) % 2) h
