-- What only contracts below the public operations cite. Nothing here need be believed.
use Rattle.std.specs.Prelude.{List, ℕ, ◌*◌, ◌≤◌, length}
use Rattle.arrays.specs.Claims.{longest_bytes}
use Rattle.bits.specs.Claims.{Bits}

-- a message to be placed by a mask, in an array of bits that has one for each index
pub record PlacePre (mask message : List ℕ) : Type 0 where
  pub short : length mask ≤ longest_bytes
  pub room : 8 * length mask ≤ length message
  pub bits : Bits message
