-- The walk over a mask's indices: what the number of the doubtful ones is.
use mathlib.Core.Path.{◌≡◌, refl, ap}
use mathlib.Core.List.{List}
use Prim.Native.Nat.{ℕ, ◌+◌}
use native.Mathlib.Numerals.{add-one}
use lib.IntN.{ℤ}
use Rattle.decoder.specs.Candidate.{doubtful}
use Rattle.sets_queue.specs.Clauses.{doubt}

module _ (mask : List ℕ) (leaves : List ℤ) where
  pub doubtful-none : doubtful mask leaves 0 ≡ 0
  unfolding doubtful
  doubtful-none = refl

  pub doubtful-more : (j : ℕ) → doubtful mask leaves (j + 1) ≡ doubtful mask leaves j + doubt mask leaves j
  unfolding doubtful
  doubtful-more j = ap (doubtful mask leaves) (add-one j)
