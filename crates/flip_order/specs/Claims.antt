-- What the theorems of this crate state of its definitions.
use Rattle.std.specs.Prelude.{List, ℕ, ◌<◌, length, get_or, ◌≡◌, true, ℤ}
use Rattle.flip_order.specs.Order.{before}
use Rattle.bits.specs.Mask.{mask_bit, ones_below}

-- each element of a list is related to every later one
pub record Pairwise (R : ℕ → ℕ → Type 0) (is : List ℕ) : Type 0 where
  pub at : (a b : ℕ) → a < b → b < length is → R (get_or is a 0) (get_or is b 0)

-- each index stands before every later one: `ordered-information` of proofs/Order.antt proves it of `ordered`
abbrev pub Sorted : List ℤ → List ℕ → Type 0
Sorted leaves = Pairwise (λ i j. before leaves i j ≡ true)

-- each index is below every later one
abbrev pub Ascending : List ℕ → Type 0
Ascending = Pairwise (λ i j. i < j)

-- no index stands twice
abbrev pub Distinct : List ℕ → Type 0
Distinct = Pairwise (λ i j. i ≡ j → ⊥)

-- an information index below n
abbrev pub Information : List ℕ → ℕ → ℕ → Type 0
Information mask n i = (i < n) × (mask_bit mask i ≡ 1)

-- a list of the information indices below n, each once: `ordered-information` of proofs/Order.antt
pub record ListsInformation (mask : List ℕ) (n : ℕ) (is : List ℕ) : Type 0 where
  -- nothing else
  pub each : (a : ℕ) → a < length is → Information mask n (get_or is a 0)
  -- all of them
  pub all : (i : ℕ) → Information mask n i → (a : ℕ) × (a < length is) × (get_or is a 0 ≡ i)
  -- none twice
  pub once : Distinct is
  -- as many as the mask has ones
  pub many : length is ≡ ones_below mask n
