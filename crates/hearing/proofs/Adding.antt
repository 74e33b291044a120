-- Adding a vector that no refusal applies to.
use mathlib.Core.Path.{◌≡◌, refl, ap, ◌∙◌}
use mathlib.Core.Bool.{Bool, true, false, ◌&&◌}
use mathlib.Core.List.{List}
use Prim.Native.Nat.{ℕ, ◌-◌, ◌^◌, ◌≤◌, ◌<◌}
use native.Mathlib.Omega.{arith}
use borrow.Author.Tests.{leb-true, ltb-true, ltb-false, eqb-true, eqb-false}
use lib.Dec.{leb, ltb, eqb}
use lib.IntN.{nat_abs}
use lib.ListN.{length, drop, replicate}
use lib.Seq.{length-take-le, get_or-take}
use Rattle.laws.specs.Clauses.{splice}
use Rattle.laws.proofs.Choice.{cond_ind, and_true}
use Rattle.laws.proofs.Table.{length-table}
use Rattle.refusal.specs.Judge.{judge}
use Rattle.refusal.proofs.Judge.{judge-past, append-past}
use Rattle.arrays.specs.Sizes.{largest_n}
use Rattle.arrays.specs.Padded.{all_zero}
use Rattle.arrays.proofs.Sizes.{fits}
use Rattle.arrays.proofs.Zeros.{zeros-past, splice-padded}
use Rattle.code.specs.declared.Code.{Code}
use Rattle.code.specs.Code.{code_length}
use Rattle.channel.specs.Channel.{channel_value, first_outside, channel_refusals}
use Rattle.channel.proofs.Judge.{fine_channel}
use Rattle.channel.proofs.Outside.{each-inside}
use Rattle.hearing.specs.Hearing.{Hearing, combined, clipped_sums, added_to, add_refusals, is_hearing}
use Rattle.hearing.specs.Clauses.{zero_from, AddPre}
use Rattle.std.specs.Prelude.{Ok}

pub from_most : (c : Code) (count : ℕ) → zero_from c count ≤ code_length c
from_most c count = cond_ind (λ (k : ℕ). k ≤ code_length c) (eqb count 0) 0 (code_length c) (λ t. omega arith) (λ t. omega arith)

-- what a hearing says of its count and of its values
module _ (c : Code) (h : Hearing) (is : is_hearing c h ≡ true) where
  abbrev zeros : Bool
  zeros = all_zero (drop (zero_from c h.count) h.values)

  abbrev inside : Bool
  inside = eqb (first_outside (combined c h)) (code_length c)

  pub count_most : h.count ≤ 255
  count_most = leb-true h.count 255 (and_true (leb h.count 255) (zeros && inside) is).0

  tests : (zeros ≡ true) × (inside ≡ true)
  tests = and_true zeros inside (and_true (leb h.count 255) (zeros && inside) is).1

  pub zero_from_lem : zeros ≡ true
  zero_from_lem = tests.0

  pub held-inside : first_outside (combined c h) ≡ code_length c
  held-inside = eqb-true _ _ tests.1

  pub zeros-after : drop (code_length c) h.values ≡ replicate (length h.values - code_length c) 0
  zeros-after = zeros-past h.values (zero_from c h.count) (code_length c) (from_most c h.count) zero_from_lem

pub held-size : (c : Code) (h : Hearing) → c.n ≤ largest_n → length h.values ≡ 2 ^ largest_n → length (combined c h) ≡ code_length c
held-size c h n_most long = length-take-le (code_length c) h.values (omega (arith, fits n_most))

-- what no refusal says of a vector and the count
module _ (c : Code) (count : ℕ) (channel : List ℕ) (fine : judge (add_refusals c count channel) ≡ Ok tt) where
  channel_facts : (length channel ≡ code_length c) × (first_outside channel ≡ length channel)
  channel_facts = fine_channel c channel (append-past (channel_refusals c channel) _ fine).0

  pub channel_size : length channel ≡ code_length c
  channel_size = channel_facts.0

  channel_inside : first_outside channel ≡ length channel
  channel_inside = channel_facts.1

  pub not_full : count ≤ 255 → count < 255
  not_full l = go (ltb count 255) refl
    where
      full : count ≡ 255 → ⊥
      full = eqb-false count 255 (judge-past _ _ _ (append-past (channel_refusals c channel) _ fine).1).0

      go : (t : Bool) → ltb count 255 ≡ t → count < 255
      go true e = ltb-true count 255 e
      go false e = absurd (full (omega (arith, ltb-false count 255 e)))

module _ (c : Code) (h : Hearing) (channel : List ℕ) (n_most : c.n ≤ largest_n) (long : length h.values ≡ 2 ^ largest_n)
    (is : is_hearing c h ≡ true) (fine : judge (add_refusals c h.count channel) ≡ Ok tt) where
  pub add_pre : AddPre h.values channel
  add_pre =
      let size = channel_size c h.count channel fine in
      let held = held-size c h n_most long in
      record {
        room = omega (arith, fits n_most);
        values_small = λ i l.
            omega (
              arith,
              ap (λ (b : ℕ). nat_abs (channel_value b)) (get_or-take (code_length c) h.values i 0 (omega arith)),
              each-inside (combined c h) (omega (arith, held-inside c h is)) i,
            );
        channel_small = λ i l. each-inside channel (omega (arith, channel_inside c h.count channel fine)) i;
      }

  -- the sums in place of the first values
  pub sums_are : splice h.values 0 (clipped_sums (length channel) h.values channel) ≡ (added_to c h channel).values
  sums_are =
      let size = channel_size c h.count channel fine in
      let sums : List ℕ = clipped_sums (code_length c) h.values channel in
      let many : length sums ≡ code_length c = length-table _ (code_length c) in
      let rest : length h.values - code_length c ≡ 2 ^ largest_n - length sums = omega arith in
      ap (λ (k : ℕ). splice h.values 0 (clipped_sums k h.values channel)) size
      ∙ splice-padded (2 ^ largest_n) h.values sums
      (ap (λ (k : ℕ). drop k h.values) many ∙ zeros-after c h is ∙ ap (λ (k : ℕ). replicate k 0) rest)
