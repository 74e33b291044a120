-- The parts of a metric are small: of n indices at most n are doubtful.
use mathlib.Core.Bool.{Bool, true, false, ◌&&◌, cond}
use mathlib.Core.List.{List}
use Prim.Native.Nat.{ℕ, zero, suc, ◌≤◌}
use native.Mathlib.Omega.{arith}
use lib.Dec.{leb, eqb}
use lib.IntN.{ℤ}
use Rattle.bits.specs.Mask.{mask_bit}
use Rattle.flip_order.specs.Order.{magnitude_at}
use Rattle.decoder.specs.Candidate.{doubtful}

at_most_one : (t : Bool) → cond t 1 0 ≤ 1
at_most_one true = omega arith
at_most_one false = omega arith

pub doubtful-most : (mask : List ℕ) (leaves : List ℤ) (n : ℕ) → doubtful mask leaves n ≤ n
unfolding doubtful
doubtful-most mask leaves zero = omega arith
doubtful-most mask leaves (suc n) = omega (arith, doubtful-most mask leaves n, at_most_one (eqb (mask_bit mask n) 1 && leb (magnitude_at leaves n) 20))
