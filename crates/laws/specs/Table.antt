-- Lists given by their elements, as document 01 gives x_j in "Check and encoder" and the values "for 0 ≤ j < h" in "A decoding pass".
use Rattle.std.specs.Prelude.{List, [], ◌∷◌, ℕ, zero, suc}

-- f 0, f 1, …, f (n - 1)
unfoldable pub table : {A : Type 0} → (ℕ → A) → ℕ → List A
table f zero = []
table f (suc n) = f 0 ∷ table (λ k. f (suc k)) n
