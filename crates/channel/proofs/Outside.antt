-- The first value outside −31..31.
use mathlib.Core.Path.{◌≡◌, refl, sym, ap, subst}
use mathlib.Core.Bool.{Bool, true, false}
use mathlib.Core.List.{List}
use Prim.Native.Nat.{ℕ, ◌≤◌}
use native.Mathlib.Omega.{arith}
use borrow.Author.Tests.{ltb-true, ltb-false}
use lib.Dec.{ltb}
use lib.IntN.{ℤ, pos, nat_abs}
use lib.ListN.{length, get_or, get_or-map, get_or-eq_default}
use Rattle.laws.proofs.First.{first_le, first-before}
use Rattle.channel.specs.Channel.{channel_value, channel_values, first_outside}
use Rattle.values.specs.Claims.{Within}

-- if there is none, each value is within −31..31, and all are
pub each-inside : (channel : List ℕ) → length channel ≤ first_outside channel → (k : ℕ) → nat_abs (channel_value (get_or channel k 0)) ≤ 31
unfolding channel_value
each-inside channel l k = go (ltb k (length channel)) refl
  where
    go : (t : Bool) → ltb k (length channel) ≡ t → nat_abs (channel_value (get_or channel k 0)) ≤ 31
    go true e = ltb-false 31 _ (first-before (λ i. ltb 31 (nat_abs (channel_value (get_or channel i 0)))) (length channel) k (omega (arith, ltb-true k (length channel) e)))
    go false e = omega (arith, ap (λ (b : ℕ). nat_abs (channel_value b)) (get_or-eq_default channel 0 (ltb-false k (length channel) e)))

pub all-inside : (channel : List ℕ) → length channel ≤ first_outside channel → Within 31 (channel_values channel)
unfolding channel_value
all-inside channel l = record { at = each }
  where
    value : (k : ℕ) → get_or (channel_values channel) k (pos 0) ≡ channel_value (get_or channel k 0)
    value k = get_or-map channel_value channel k 0

    each : (k : ℕ) → nat_abs (get_or (channel_values channel) k (pos 0)) ≤ 31
    each k = subst (λ (z : ℤ). nat_abs z ≤ 31) (sym (value k)) (each-inside channel l k)

pub first_outside_le : (channel : List ℕ) → first_outside channel ≤ length channel
first_outside_le channel = first_le _ (length channel)
