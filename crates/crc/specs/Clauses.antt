-- What only contracts below the public operations cite. Nothing here need be believed.
use Rattle.std.specs.Prelude.{List, [], ◌∷◌, ℕ, ◌+◌, ◌%◌, ◌^◌, ◌<◌, ◌≤◌}
use Rattle.crc.specs.Polynomial.{raised, add_highest, scale}

-- A step of a register of r coefficients. The highest coefficient, with the next payload bit b added, is struck out, and its product with t is
-- added to what follows it. From `start`, the steps of all payload bits end at the check.
abbrev pub step : List ℕ → List ℕ → ℕ → List ℕ
step t [] b = []
step t (g ∷ gs) b = add_highest (scale ((g + b) % 2) t) (raised gs 1)

-- The check width is from 1 to 16, and the start value has no more bits.
pub record CheckPre (r start : ℕ) : Type 0 where
  pub some : 1 ≤ r
  pub most : r ≤ 16
  pub fits : start < 2 ^ r
