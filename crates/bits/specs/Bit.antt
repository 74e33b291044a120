-- Document 01, "Code description" and "Check and encoder": the bits of masks, polynomials, payloads and codewords, which are the numbers 0
-- and 1.
use Rattle.std.specs.Prelude.{List, [], ◌∷◌, ℕ, zero, suc, ◌+◌, ◌*◌, ◌/◌, ◌%◌, ◌^◌}

-- bit i of the number x, 0 being the least
abbrev pub bit : ℕ → ℕ → ℕ
bit x i = x / 2 ^ i % 2

-- the w low bits of x, the highest first
abbrev pub bits_of : ℕ → ℕ → List ℕ
bits_of zero x = []
bits_of (suc w) x = bit x w ∷ bits_of w x

-- the number whose w bits, the highest first, are f 0, …, f (w - 1)
unfoldable pub number : (ℕ → ℕ) → ℕ → ℕ
number f zero = 0
number f (suc w) = number f w * 2 + f w
