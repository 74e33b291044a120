-- What the theorems of this crate state of its definitions.
use Rattle.std.specs.Prelude.{ℕ, ◌%◌, ◌^◌, ◌/◌, ◌<◌, ◌≡◌}
use Rattle.polar_number.specs.Number.{Parts, packed_parts}

-- bits 0-7 of a number, as POLAR_REFUSAL of include/polar.h takes them
abbrev pub refusal_in : ℕ → ℕ
refusal_in x = x % 2 ^ 8

-- bits 8-31 of a number, as POLAR_VALUE takes them
abbrev pub value_in : ℕ → ℕ
value_in x = x / 2 ^ 8 % 2 ^ 24

-- bits 32-63 of a number, as POLAR_STEPS takes them
abbrev pub steps_in : ℕ → ℕ
steps_in x = x / 2 ^ 32

-- x is a 64-bit number with these parts
pub record Fields (p : Parts) (x : ℕ) : Type 0 where
  pub fits : x < 2 ^ 64
  pub refusal_is : refusal_in x ≡ p.refusal
  pub value_is : value_in x ≡ p.value
  pub steps_is : steps_in x ≡ p.steps

-- these parts can be read back from their number
abbrev pub Read : Parts → Type 0
Read p = Fields p (packed_parts p)
