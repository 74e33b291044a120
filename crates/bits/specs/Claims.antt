-- What the theorems of this crate state of its definitions.
use Rattle.std.specs.Prelude.{List, ℕ, zero, suc, ◌+◌, ◌<◌, get_or}
use Rattle.std.specs.Int.Count.{ones}

-- the counts of ones in the first m bytes, added up; at m = length mask this is `ones_in mask` (`byte_counts-is` of proofs/Mask.antt)
unfoldable pub byte_counts : List ℕ → ℕ → ℕ
byte_counts mask zero = 0
byte_counts mask (suc m) = byte_counts mask m + ones (get_or mask m 0)

-- each element is 0 or 1 (`get_or` is 0 at an index outside the list)
pub record Bits (xs : List ℕ) : Type 0 where
  pub at : (i : ℕ) → get_or xs i 0 < 2
