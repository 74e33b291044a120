-- Document 01, "Check and encoder": the check. Bit i of the polynomial field is the coefficient of z^i for i < r, and z^r is understood: the
-- divisor is z^r + t, and t is `bits_of r poly`.
use Rattle.std.specs.Prelude.{Bool, true, false, ◌&&◌, List, [], ◌∷◌, ℕ, eqb, length, take, drop}
use Rattle.crc.specs.Polynomial.{raised, add_highest, rem}

-- start · z^k + payload · z^r, for k payload bits, the first being the highest coefficient. The r coefficients `start` are zeros for a
-- description of kind 1.
abbrev pub dividend : List ℕ → List ℕ → List ℕ → List ℕ
dividend t start payload = add_highest (raised start (length payload)) (raised payload (length t))

-- the check: the remainder of `dividend` on division by z^r + t
unfoldable pub check_of : List ℕ → List ℕ → List ℕ → List ℕ
check_of t start payload = rem t (length payload) (dividend t start payload)

-- whether two lists are equal
abbrev pub same : List ℕ → List ℕ → Bool
same [] [] = true
same [] (y ∷ ys) = false
same (x ∷ xs) [] = false
same (x ∷ xs) (y ∷ ys) = eqb x y && same xs ys

-- whether what follows the first k bits of a message is their check
abbrev pub passes : List ℕ → List ℕ → ℕ → List ℕ → Bool
passes t start k message = same (drop k message) (check_of t start (take k message))
