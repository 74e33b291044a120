-- Document 01, "A decoding pass"; document 000, section II-B: the values of a node and the decision at a leaf. Positive favours bit 0.
use Rattle.std.specs.Prelude.{ℕ, min, ◌+◌, ◌-◌, ℤ, pos, negsuc, neg_ℤ, nat_abs, ◌+ℤ◌, ◌-ℤ◌, cond, eqb, List, get_or}
use Rattle.laws.specs.Table.{table}
use Rattle.bits.specs.Mask.{mask_bit}

-- 1 exactly if the value is negative: zero has positive sign and decides 0
abbrev pub hard : ℤ → ℕ
hard (pos a) = 0
hard (negsuc a) = 1

-- f: the smaller magnitude, with the product of the signs
unfoldable pub f : ℤ → ℤ → ℤ
f a b =
    let m = pos (min (nat_abs a) (nat_abs b)) in
    cond (eqb (hard a) (hard b)) m (neg_ℤ m)

-- g: the sum if the left sum bit is 0, otherwise the second less the first
unfoldable pub g : ℤ → ℤ → ℕ → ℤ
g a b sum = cond (eqb sum 0) (a +ℤ b) (b -ℤ a)

-- the values of the left half, from 2h values
unfoldable pub left_values : ℕ → List ℤ → List ℤ
left_values h v = table (λ j. f (get_or v j (pos 0)) (get_or v (h + j) (pos 0))) h

-- the values of the right half, from 2h values and the h sums of the left half
unfoldable pub right_values : ℕ → List ℤ → List ℕ → List ℤ
right_values h v sums = table (λ j. g (get_or v j (pos 0)) (get_or v (h + j) (pos 0)) (get_or sums j 0)) h

-- how the bit at an index is found
pub data Rule : Type 0 where
  -- it is 0
  frozen : Rule
  -- it is the sign of the value
  usual : Rule
  -- it is the opposite of the sign
  opposite : Rule

-- the bit at a leaf with value v
abbrev pub decided : Rule → ℤ → ℕ
decided frozen v = 0
decided usual v = hard v
decided opposite v = 1 - hard v

-- the rule of an index under a mask: the usual decision at an information index, and frozen at any other
abbrev pub mask_rule : List ℕ → ℕ → Rule
mask_rule mask i = cond (eqb (mask_bit mask i) 1) usual frozen
