-- What the largest n bounds.
use Prim.Native.Nat.{ℕ, ◌*◌, ◌^◌, ◌≤◌, ◌<◌}
use mathlib.Core.Path.{◌≡◌}
use native.Mathlib.Nat.{mul-le-mul}
use native.Mathlib.Omega.{arith}
use lib.Pow.{pow_mono}
use Rattle.arrays.specs.Sizes.{largest_n}
use Rattle.arrays.specs.Claims.{most_steps, longest_bytes, longest}

-- every code fits the arrays
pub fits : {n : ℕ} → n ≤ largest_n → 2 ^ n ≤ longest
fits l = pow_mono l

-- so does its mask
pub mask_fits : {n bytes : ℕ} → n ≤ largest_n → 8 * bytes ≡ 2 ^ n → bytes ≤ longest_bytes
mask_fits l e = omega (arith, fits l)

-- a pass
pub steps_fit : {n steps : ℕ} → n ≤ largest_n → steps ≤ n * 2 ^ n → steps ≤ most_steps
steps_fit l m = omega (arith, mul-le-mul l (fits l))

-- the largest magnitude of a leaf value
pub loudest : {n : ℕ} → n ≤ largest_n → 31 * 2 ^ n < 2 ^ 30
loudest l = omega (arith, fits l)
