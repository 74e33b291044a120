-- Document 01, "Check and encoder": payload then check fill information indices in ascending order; frozen entries of u are zero.
use Rattle.std.specs.Prelude.{cond, List, [], ◌∷◌, ◌++◌, ℕ, zero, suc, eqb, get_or}
use Rattle.bits.specs.Mask.{mask_bit, ones_below}
use Rattle.laws.specs.Table.{table}

-- u_i: at an information index the next bit of the message, which is the one after those of the information indices below i
abbrev pub placed_bit : List ℕ → List ℕ → ℕ → ℕ
placed_bit mask message i = cond (eqb (mask_bit mask i) 1) (get_or message (ones_below mask i) 0) 0

-- u_0, …, u_(n - 1)
unfoldable pub placed : List ℕ → List ℕ → ℕ → List ℕ
placed mask message n = table (placed_bit mask message) n

-- the bits at the information indices below n, in ascending order
unfoldable pub taken : List ℕ → List ℕ → ℕ → List ℕ
taken mask u zero = []
taken mask u (suc n) = taken mask u n ++ cond (eqb (mask_bit mask n) 1) (get_or u n 0 ∷ []) []
