-- How many values the halves have.
use mathlib.Core.Path.{◌≡◌}
use mathlib.Core.List.{List}
use Prim.Native.Nat.{ℕ}
use lib.IntN.{ℤ}
use lib.ListN.{length}
use Rattle.laws.proofs.Table.{length-table}
use Rattle.values.specs.Values.{left_values, right_values}

pub length-left : (h : ℕ) (v : List ℤ) → length (left_values h v) ≡ h
unfolding left_values
length-left h v = length-table _ h

pub length-right : (h : ℕ) (v : List ℤ) (sums : List ℕ) → length (right_values h v sums) ≡ h
unfolding right_values
length-right h v sums = length-table _ h
