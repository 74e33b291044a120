-- The sign of a value is a bit.
use Prim.Native.Nat.{◌<◌}
use native.Mathlib.Omega.{arith}
use lib.IntN.{ℤ, pos, negsuc}
use Rattle.values.specs.Values.{hard}

pub hard_lt : (z : ℤ) → hard z < 2
hard_lt (pos n) = omega arith
hard_lt (negsuc n) = omega arith
