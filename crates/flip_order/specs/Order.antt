-- Document 01, "Flip decoding, full and restarted": information indices are ordered by the magnitude of trial 1's leaf value, equal
-- magnitudes by lower index.
use Rattle.std.specs.Prelude.{Bool, ◌&&◌, ◌||◌, cond, List, [], ◌∷◌, ◌++◌, ℕ, zero, suc, ltb, eqb, ℤ, pos, nat_abs, get_or}
use Rattle.bits.specs.Mask.{mask_bit}

-- the information indices below n, ascending
unfoldable pub information : List ℕ → ℕ → List ℕ
information mask zero = []
information mask (suc n) = information mask n ++ cond (eqb (mask_bit mask n) 1) (n ∷ []) []

-- the magnitude of the leaf value at index i
abbrev pub magnitude_at : List ℤ → ℕ → ℕ
magnitude_at leaves i = nat_abs (get_or leaves i (pos 0))

-- whether i stands before j
abbrev pub before : List ℤ → ℕ → ℕ → Bool
before leaves i j =
    ltb (magnitude_at leaves i) (magnitude_at leaves j) || (eqb (magnitude_at leaves i) (magnitude_at leaves j) && ltb i j)
