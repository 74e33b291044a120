-- What the theorems of this crate state of its definitions.
use Rattle.std.specs.Prelude.{List, [], ◌∷◌, ℕ, zero, suc, length, replicate, ◌≡◌}
use Rattle.crc.specs.Polynomial.{add_highest, scale}
use Rattle.bits.specs.Claims.{Bits}

-- the quotient of the long division `rem`: the coefficients struck out
abbrev pub quo : List ℕ → ℕ → List ℕ → List ℕ
quo t zero p = []
quo t (suc m) [] = []
quo t (suc m) (a ∷ p) = a ∷ quo t m (add_highest (scale a t) p)

-- q · (z^r + t)
abbrev pub mul : List ℕ → List ℕ → List ℕ
mul t [] = replicate (length t) 0
mul t (a ∷ q) = add_highest (scale a (1 ∷ t)) (0 ∷ mul t q)

-- p is a multiple of z^r + t: `check_multiple` and `check_only` of proofs/Message.antt prove it of a payload with its check
pub record Multiple (t p : List ℕ) : Type 0 where
  pub quotient : List ℕ
  pub bits : Bits quotient
  pub product : p ≡ mul t quotient
