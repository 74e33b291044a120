-- The bound at a leaf: kept by every pass, and reached under every n.
use mathlib.Core.Path.{◌≡◌, refl, ap, ◌∙◌}
use mathlib.Core.List.{List}
use Prim.Native.Nat.{ℕ, ◌^◌}
use native.Mathlib.Omega.{arith}
use lib.Dec.{eqb}
use lib.IntN.{pos}
use lib.ListN.{replicate, get_or-replicate, get_or-map}
use Rattle.laws.proofs.Choice.{cond_ind}
use Rattle.bits.specs.Mask.{mask_bit}
use Rattle.values.specs.Values.{Rule, usual, frozen, decided, mask_rule}
use Rattle.channel.specs.Channel.{channel_value, channel_values}
use Rattle.channel.proofs.Outside.{all-inside}
use Rattle.pass_tree.proofs.Leaves.{within-leaves}
use Rattle.pass_tree.proofs.Loudest.{Calm, last-loudest}
use Rattle.theorems_largest.specs.InnerBound.{InnerBound}

-- no index of a mask is opposite
mask_calm : (mask : List ℕ) → Calm (mask_rule mask)
mask_calm mask i x = cond_ind (λ (rule : Rule). decided rule (pos x) ≡ 0) (eqb (mask_bit mask i) 1) usual frozen (λ _. refl) (λ _. refl)

pub inner_bound : InnerBound
unfolding channel_value
inner_bound = record {
  bounded = λ d c channel p rule i code size inside. (within-leaves c.n 31 p rule (channel_values channel) (all-inside channel (omega arith))).at i;
  reached = λ n mask.
      last-loudest n 31 (mask_rule mask) (channel_values (replicate (2 ^ n) 31)) (mask_calm mask)
      (λ j l. get_or-map channel_value (replicate (2 ^ n) 31) j 0 ∙ ap channel_value (get_or-replicate (2 ^ n) j 31 0 l));
  largest = refl;
}
