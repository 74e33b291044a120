-- Document 02, request 2.2: the sets that a trial may flip.
use Rattle.std.specs.Prelude.{◌≡◌, List, ℕ, ◌<◌, length, get_or}
use Rattle.bits.specs.Mask.{mask_bit}

-- indices that a trial can flip, of `size` indices
pub record Flips (mask : List ℕ) (size : ℕ) (is : List ℕ) : Type 0 where
  -- at least one
  pub some : 0 < length is
  -- each is an index
  pub below : (a : ℕ) → a < length is → get_or is a 0 < size
  -- each is an information index
  pub information : (a : ℕ) → a < length is → mask_bit mask (get_or is a 0) ≡ 1
  -- they ascend
  pub ascending : (a b : ℕ) → a < b → b < length is → get_or is a 0 < get_or is b 0
