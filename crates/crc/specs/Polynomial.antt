-- Document 01, "Check and encoder": polynomials over two values, for the check. They are lists of coefficients, each 0 or 1, the highest first.
-- The divisor z^r + t is given by the r coefficients t.
use Rattle.std.specs.Prelude.{List, [], ◌∷◌, ◌++◌, ℕ, zero, suc, ◌+◌, ◌*◌, ◌%◌, replicate}

-- p · z^n
abbrev pub raised : List ℕ → ℕ → List ℕ
raised p n = p ++ replicate n 0

-- p + q; if q is longer, p is added to its highest coefficients
abbrev pub add_highest : List ℕ → List ℕ → List ℕ
add_highest [] q = q
add_highest (a ∷ p) [] = []
add_highest (a ∷ p) (b ∷ q) = (a + b) % 2 ∷ add_highest p q

-- a · p, for a coefficient a
abbrev pub scale : ℕ → List ℕ → List ℕ
scale a [] = []
scale a (b ∷ p) = a * b ∷ scale a p

-- Long division by z^r + t, m steps for m + r coefficients: the highest coefficient a is struck out, and a · t is added to what follows it.
-- What is left at the end is the remainder.
abbrev pub rem : List ℕ → ℕ → List ℕ → List ℕ
rem t zero p = p
rem t (suc m) [] = []
rem t (suc m) (a ∷ p) = rem t m (add_highest (scale a t) p)
