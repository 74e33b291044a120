-- An accepted description fits a buffer for the longest.
use mathlib.Core.List.{List}
use Prim.Native.Nat.{ℕ, ◌≤◌}
use native.Mathlib.Omega.{arith}
use lib.ListN.{length, length-drop}
use Rattle.arrays.proofs.Sizes.{mask_fits}
use Rattle.code.specs.declared.Code.{Code}
use Rattle.code.specs.Code.{longest_description}
use Rattle.code.specs.Description.{word, mask_at}
use Rattle.code.specs.Claims.{Described}
use Rattle.code.proofs.TwoKinds.{mask_at-most}

pub description-most : {d : List ℕ} {c : Code} → Described d c → length d ≤ longest_description
description-most {d} f = omega (arith, f.header, mask_at-most (word d 2), length-drop (mask_at (word d 2)) d, mask_fits f.coded.n_most f.coded.mask_size)
