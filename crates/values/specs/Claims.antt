-- What the theorems of this crate state of its definitions.
use Rattle.std.specs.Prelude.{List, ℕ, ◌≤◌, ℤ, pos, nat_abs, get_or}

-- no magnitude is above m (`get_or` is 0 at an index outside the list)
pub record Within (m : ℕ) (xs : List ℤ) : Type 0 where
  pub at : (k : ℕ) → nat_abs (get_or xs k (pos 0)) ≤ m
