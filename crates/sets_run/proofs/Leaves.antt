-- Leaf values in arrays: those of trial 1, and those of a later trial with trial 1's below the index at which it resumed.
use mathlib.Core.Path.{◌≡◌, sym, ap, ◌∙◌}
use mathlib.Core.List.{List, [], ◌++◌}
use Prim.Native.Nat.{ℕ, ◌+◌, ◌-◌, ◌*◌, ◌^◌, ◌<◌, ◌≤◌}
use native.Mathlib.Omega.{arith}
use lib.IntN.{ℤ, pos, nat_abs}
use lib.ListN.{length, get_or, take, drop, get_or-append}
use lib.Seq.{get_or-take, get_or-drop, get_or-append-add, length-take-le}
use Rattle.laws.specs.Clauses.{splice}
use Rattle.arrays.proofs.Sizes.{fits}
use Rattle.code.specs.declared.Code.{Code}
use Rattle.code.specs.Code.{code_length}
use Rattle.code.specs.Claims.{Coded}
use Rattle.values.specs.Values.{mask_rule}
use Rattle.values.specs.Claims.{Within}
use Rattle.channel.specs.Channel.{channel_values}
use Rattle.pass_tree.proofs.Leaves.{within-leaves}
use Rattle.flip_order.specs.Order.{magnitude_at}
use Rattle.flip_order.specs.Clauses.{most_magnitude}
use Rattle.flip_trial.specs.Trial.{first_trial}
use Rattle.flip_trial.specs.Clauses.{FirstLeaves}
use Rattle.sets_run.specs.Clauses.{leaves_from}

-- the metrics of a pass fit
pub loudest : {mask : List ℕ} {c : Code} → Coded mask c → 31 * 2 ^ c.n ≤ most_magnitude
loudest coded = omega (arith, fits coded.n_most)

module _ {room : ℕ} {mask : List ℕ} {c : Code} {channel : List ℕ} {values : List ℤ} (kept : FirstLeaves room mask c channel values) (j : ℕ) (l : j < code_length c) where
  pub leaf_first : get_or values j (pos 0) ≡ get_or (first_trial mask c (channel_values channel)).leaves j (pos 0)
  leaf_first = sym (get_or-take (code_length c) values j (pos 0) l) ∙ ap (λ (xs : List ℤ). get_or xs j (pos 0)) kept.values

  pub first_small : Coded mask c → Within 31 (channel_values channel) → magnitude_at values j ≤ most_magnitude
  first_small coded small =
      omega (arith, ap nat_abs leaf_first, (within-leaves c.n 31 [] (mask_rule mask) (channel_values channel) small).at j, loudest coded)

module _ (q : ℕ) (values leaves : List ℤ) (fits : q ≤ length values) where
  pub leaf-before : (j : ℕ) → j < q → get_or (leaves_from q values leaves) j (pos 0) ≡ get_or values j (pos 0)
  unfolding splice
  leaf-before j l = get_or-append (take q values) _ (pos 0) j (omega (arith, length-take-le q values fits)) ∙ get_or-take q values j (pos 0) l

  pub leaf-after : (j : ℕ) → q ≤ j → get_or (leaves_from q values leaves) j (pos 0) ≡ get_or leaves j (pos 0)
  unfolding splice
  leaf-after j l =
      let long = length-take-le q values fits in
      let e : j ≡ length (take q values) + (j - q) = omega arith in
      let back : 0 + length (take q values) + (j - q) ≡ j = omega arith in
      let rest : List ℤ = drop (0 + length (take q values)) leaves in
      ap (λ (k : ℕ). get_or (take q values ++ rest) k (pos 0)) e ∙ get_or-append-add (take q values) rest (j - q) (pos 0)
      ∙ get_or-drop (0 + length (take q values)) leaves (j - q) (pos 0) ∙ ap (λ (k : ℕ). get_or leaves k (pos 0)) back
