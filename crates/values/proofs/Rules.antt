-- The rule of an index under a mask.
use mathlib.Core.Path.{◌≡◌, ap}
use mathlib.Core.Bool.{cond}
use mathlib.Core.List.{List}
use Prim.Native.Nat.{ℕ}
use lib.Dec.{eqb}
use Rattle.bits.specs.Mask.{mask_bit}
use Rattle.values.specs.Values.{frozen, usual, mask_rule}

pub rule_usual : (mask : List ℕ) (i : ℕ) → mask_bit mask i ≡ 1 → mask_rule mask i ≡ usual
rule_usual mask i e = ap (λ (b : ℕ). cond (eqb b 1) usual frozen) e

pub rule-frozen : (mask : List ℕ) (i : ℕ) → mask_bit mask i ≡ 0 → mask_rule mask i ≡ frozen
rule-frozen mask i e = ap (λ (b : ℕ). cond (eqb b 1) usual frozen) e
