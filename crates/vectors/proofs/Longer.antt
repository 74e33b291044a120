-- Document 02, request 2.3, at descriptions with n = 3, and on both sides of 10 and of 12.
use mathlib.Core.Path.{◌≡◌, refl, sym, ap, ◌∙◌}
use mathlib.Core.List.{List, [], ◌∷◌}
use Prim.Native.Nat.{ℕ, ◌+◌, ◌-◌, ◌/◌, ◌%◌, ◌^◌, ◌≤◌}
use native.Mathlib.Omega.{arith}
use lib.Dec.{ltb}
use lib.IntN.{pos, nat_abs}
use lib.ListN.{length, get_or, replicate, length-replicate, get_or-replicate}
use Rattle.laws.specs.Table.{table}
use Rattle.laws.proofs.First.{first-is}
use Rattle.refusal.specs.declared.Refusal.{Refusal}
use Rattle.refusal.specs.Judge.{judge, refused_or}
use Rattle.arrays.specs.Sizes.{largest_n}
use Rattle.arrays.specs.Claims.{longest}
use Rattle.bits.specs.Mask.{ones_below}
use Rattle.code.specs.declared.Code.{Code}
use Rattle.code.specs.Description.{mask_of, describe_up_to, describe, on_description}
use Rattle.transform.specs.Transform.{covers, parity, transformed, xors}
use Rattle.values.specs.Values.{f, g, left_values, right_values, Rule}
use Rattle.channel.specs.Channel.{channel_value, channel_values, first_outside}
use Rattle.pass_tree.specs.Node.{node}
use Rattle.flip_trial.specs.Trial.{first_trial}
use Rattle.theorems_largest.specs.Claims.{NewAnswer, AnswersAs}
use Rattle.theorems_largest.proofs.Longer.{old_answers, as_10}
use Rattle.theorems_largest.proofs.Inner.{inner_bound}
use Rattle.vectors.proofs.Descriptions.{D}
use Rattle.std.specs.Prelude.{Err, Ok}
use Rattle.refusal.specs.declared.Refusal.TheVariants.{CheckLength, CodeLength}
use Rattle.code.specs.Clauses.{Description}

-- D with another n: each of its N / 8 mask bytes is `E8`
abbrev long : ℕ → List ℕ
long n =
    let bytes = 2 ^ n / 8 in
    (8 + bytes) % 256 ∷ (8 + bytes) / 256 ∷ 0x01 ∷ 0x00 ∷ n ∷ 0x01 ∷ 0x01 ∷ 0x00 ∷ replicate bytes 0xE8

-- K is N / 2, and r is 1
abbrev long_code : ℕ → Code
long_code n = record { n = n; r = 1; polynomial = 1; start = 0; k = 2 ^ n / 2 - 1 }

-- n = 3 is D's. If n may be at most 10, 10 is accepted, and 11, 12 and 13 are refused as 4; of these 11 and 12 are accepted with `largest_n`.
pub long_rows :
    (long 3 ≡ D)
    × (describe_up_to 10 D ≡ Ok (long_code 3))
    × (describe_up_to 10 (long 10) ≡ Ok (long_code 10))
    × (describe_up_to 10 (long 11) ≡ Err CodeLength)
    × (describe_up_to 10 (long 12) ≡ Err CodeLength)
    × (describe_up_to 10 (long 13) ≡ Err CodeLength)
    × (describe (long 11) ≡ Ok (long_code 11))
    × (describe (long 12) ≡ Ok (long_code 12))
    × (describe (long 13) ≡ Err CodeLength)
unfolding describe_up_to judge refused_or ones_below
long_rows = (refl, refl, refl, refl, refl, refl, refl, refl, refl)

-- under D, and at n = 10, every operation answers as if n were at most 10
pub D_as_10 : AnswersAs 10 D
D_as_10 = as_10 D (long_code 3) long_rows.1

pub long_as_10 : AnswersAs 10 (long 10)
long_as_10 = as_10 (long 10) (long_code 10) long_rows.2

-- D with r = 17 is refused as 6, and stays so
abbrev wide : List ℕ
wide = 0x09 ∷ 0x00 ∷ 0x01 ∷ 0x00 ∷ 0x03 ∷ 0x11 ∷ 0x01 ∷ 0x00 ∷ 0xE8 ∷ []

wide_refused : describe_up_to 10 wide ≡ Err CheckLength
unfolding describe_up_to judge refused_or
wide_refused = refl

pub wide_stays : (refuse : Refusal → ℕ) (go : Code → ℕ) → on_description (describe_up_to largest_n wide) refuse go ≡ refuse CheckLength
wide_stays refuse go = sym (old_answers ℕ refuse go 10 largest_n wide (omega arith) (λ e. let six : describe_up_to 10 wide ≡ Err CheckLength = wide_refused in let z : ◌≡◌ {A = ℕ} 4 6 = cc in omega arith))
    ∙ ap (λ (x : Description). on_description x refuse go) wide_refused

-- at n = 12 the description has another answer
pub new_12 : NewAnswer 10 largest_n (long 12)
new_12 = record {
  refused = long_rows.4;
  above = omega arith;
  most = omega arith;
  other = λ e. let code : describe (long 12) ≡ Ok (long_code 12) = long_rows.7 in let z : ◌≡◌ {A = ℕ} 0 1 = cc in omega arith;
}

-- ---- the bound of a leaf

-- each value is 31
abbrev loud : ℕ → List ℕ
loud size = replicate size 31

loud-inside : (size : ℕ) → first_outside (loud size) ≡ length (loud size)
unfolding channel_value
loud-inside size =
    first-is (λ i. ltb 31 (nat_abs (channel_value (get_or (loud size) i 0)))) (length (loud size)) (length (loud size)) (omega arith)
    (λ k l. ap (λ (b : ℕ). ltb 31 (nat_abs (channel_value b))) (get_or-replicate size k 31 0 (omega (arith, length-replicate {A = ℕ} size 31)))) (λ l. absurd (omega arith))

-- at n = 12, under any forced bits and any rules
pub loud_12 : (p : List ℕ) (rule : ℕ → Rule) (i : ℕ) → nat_abs (get_or (node 12 p rule (channel_values (loud longest))).leaves i (pos 0)) ≤ 126976
loud_12 p rule i = inner_bound.bounded (long 12) (long_code 12) (loud longest) p rule i long_rows.7 refl (loud-inside longest)

-- under D the last leaf reaches 31 · 2^3
pub loudest_3 : get_or (first_trial (mask_of D) (long_code 3) (channel_values (loud 8))).leaves 7 (pos 0) ≡ pos 248
unfolding table ones_below covers parity transformed xors channel_value f g left_values right_values node
loudest_3 = refl
