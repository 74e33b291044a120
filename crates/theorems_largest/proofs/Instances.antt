-- The theorems of this crate at document 01's D and at the largest n.
use mathlib.Core.Path.{◌≡◌, refl, sym, ap, ◌∙◌}
use mathlib.Core.List.{List, [], ◌∷◌}
use Prim.Native.Nat.{ℕ, ◌-◌, ◌*◌, ◌≤◌}
use native.Mathlib.Omega.{arith}
use lib.IntN.{pos, nat_abs}
use lib.ListN.{get_or, replicate}
use Rattle.laws.specs.First.{first_where}
use Rattle.refusal.specs.Judge.{judge, refused_or}
use Rattle.arrays.specs.Sizes.{largest_n}
use Rattle.arrays.specs.Claims.{longest}
use Rattle.bits.specs.Mask.{ones_below}
use Rattle.code.specs.declared.Code.{Code}
use Rattle.code.specs.Code.{code_length}
use Rattle.code.specs.Description.{describe_up_to, describe, on_description}
use Rattle.values.specs.Values.{Rule, mask_rule}
use Rattle.channel.specs.Channel.{channel_value, channel_values}
use Rattle.pass_tree.specs.Node.{node}
use Rattle.theorems_largest.proofs.Inner.{inner_bound}
use Rattle.theorems_largest.proofs.Longer.{old_answers}
use Rattle.std.specs.Prelude.{Ok}
use Rattle.code.specs.Clauses.{Description}

-- document 01's D, with N = 8
abbrev D : List ℕ
D = 0x09 ∷ 0x00 ∷ 0x01 ∷ 0x00 ∷ 0x03 ∷ 0x01 ∷ 0x01 ∷ 0x00 ∷ 0xE8 ∷ []

-- its code
abbrev code_d : Code
code_d = record { n = 3; r = 1; polynomial = 1; start = 0; k = 3 }

accepted : describe D ≡ Ok code_d
unfolding describe_up_to judge refused_or ones_below
accepted = refl

-- eight values of 31 under D: with any bits forced and by any rules, no leaf exceeds 31 · 2^3
pub loud_3 : (p : List ℕ) (rule : ℕ → Rule) (i : ℕ) → nat_abs (get_or (node 3 p rule (channel_values (replicate 8 31))).leaves i (pos 0)) ≤ 248
unfolding first_where channel_value
loud_3 p rule i = inner_bound.bounded D code_d (replicate 8 31) p rule i accepted refl refl

-- the last leaf of the longest code, on values of 31 and under any mask
pub loudest-longest : (mask : List ℕ) → get_or (node largest_n [] (mask_rule mask) (channel_values (replicate longest 31))).leaves (longest - 1) (pos 0) ≡ pos 126976
loudest-longest mask = inner_bound.reached largest_n mask

-- what that is by the formula
pub largest_bound : 31 * longest ≡ 126976
largest_bound = inner_bound.largest

-- ---- old answers: D with n up to 10 and up to 12

accepted_10 : describe_up_to 10 D ≡ Ok code_d
unfolding describe_up_to judge refused_or ones_below
accepted_10 = refl

-- the steps of a whole pass under D, by an operation that reads them, and 0 if D is refused
pub D_stays : on_description (describe_up_to largest_n D) (λ x. 0) (λ c. c.n * code_length c) ≡ 24
D_stays =
    sym (old_answers ℕ (λ x. 0) (λ c. c.n * code_length c) 10 largest_n D (omega arith) (λ e. let same : describe_up_to 10 D ≡ Ok code_d = accepted_10 in let z : ◌≡◌ {A = ℕ} 0 1 = cc in omega arith))
    ∙ ap (λ (x : Description). on_description x (λ y. 0) (λ c. c.n * code_length c)) accepted_10
