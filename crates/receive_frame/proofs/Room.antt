-- The payload of an accepted description fits its buffer.
use mathlib.Core.List.{List}
use Prim.Native.Nat.{ℕ, ◌≤◌}
use native.Mathlib.Omega.{arith}
use Rattle.arrays.specs.Claims.{longest_bytes}
use Rattle.arrays.proofs.Sizes.{fits}
use Rattle.bits.specs.Packing.{bytes_for}
use Rattle.code.specs.declared.Code.{Code}
use Rattle.code.specs.Claims.{Described}

pub payload-most : {d : List ℕ} {c : Code} → Described d c → bytes_for c.k ≤ longest_bytes
payload-most f = omega (arith, f.coded.K_most, f.coded.r_least, fits f.coded.n_most)
