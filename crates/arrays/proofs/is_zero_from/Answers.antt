use Rattle.std.proofs.Common.{◌≡◌, ◌&&◌, ℕ, List, [], ◌∷◌, refl, ap, eqb, arith}
use Rattle.std.specs.List.{list_all}
use Rattle.std.proofs.lemmas.Bool.Decides.{nat_tests}
use Rattle.std.proofs.lemmas.Grind.{common_steps}
use Rattle.std.proofs.lemmas.List.{take_rest, take_all}
use lib.Bits.{bit_or, or_add_and, and_le_l, and_le_r}
use Rattle.arrays.specs.Padded.{all_zero}
use Rattle.arrays.proofs.is_zero_from.Goals as goal

-- two bytes together have a bit exactly if one of them has
or-is-zero : (a b : ℕ) → eqb (bit_or a b) 0 ≡ (eqb a 0 && eqb b 0)
or-is-zero a b = grind (arith, nat_tests, or_add_and a b, and_le_l a b, and_le_r a b)

-- the test as std writes it
all_zero-is : (xs : List ℕ) → list_all (λ x. eqb x 0) xs ≡ all_zero xs
unfolding all_zero
all_zero-is [] = refl
all_zero-is (x ∷ xs) = ap (λ t. eqb x 0 && t) (all_zero-is xs)

pub loop-byte-preserved : goal.loop-byte-preserved
loop-byte-preserved c = grind (arith, common_steps, or-is-zero)

pub returns : goal.returns
returns c = grind (arith, common_steps, all_zero-is, take_rest, take_all)
