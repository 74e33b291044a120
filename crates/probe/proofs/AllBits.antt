-- The test whether every number of a list is a bit.
use mathlib.Core.Path.{◌≡◌}
use mathlib.Core.Bool.{true, and-eq-true_iff}
use mathlib.Core.List.{List, [], ◌∷◌}
use Prim.Native.Nat.{ℕ}
use borrow.Author.Tests.{ltb-true}
use lib.Dec.{ltb}
use Rattle.bits.specs.Claims.{Bits}
use Rattle.bits.proofs.Lists.{bits-nil, bits-cons}
use Rattle.probe.specs.Clauses.{all_bits}

pub all-bits : (xs : List ℕ) → all_bits xs ≡ true → Bits xs
all-bits [] e = bits-nil
all-bits (x ∷ xs) e =
    let both = (and-eq-true_iff (ltb x 2) (all_bits xs)).0 e in bits-cons (ltb-true x 2 both.0) (all-bits xs both.1)
