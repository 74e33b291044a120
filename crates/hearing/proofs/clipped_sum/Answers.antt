use Rattle.std.proofs.Common.{◌≡◌, ap, ap₂, ◌∙◌, arith, rules, w8}
use Rattle.std.specs.Prelude.{ℤ, pos, negsuc, ◌+ℤ◌, FitsSigned}
use Rattle.std.specs.Int.{cast_unsigned, int_max, int_min}
use Rattle.std.proofs.lemmas.Int.{ints, to_z-of_z}
use Rattle.channel.specs.Channel.{channel_value}
use Rattle.hearing.proofs.Sums.{signed_is, clip_is}
use Rattle.hearing.proofs.clipped_sum.Goals as goal

pub overflow_add-sum : goal.overflow_add-sum
overflow_add-sum c =
    let s = signed_is c.args.a (omega arith) in
    let t = signed_is c.args.b (omega arith) in
    grind (arith, ints)

pub returns : goal.returns
returns c =
    let x = c.cast_signed.result in
    let y = c.cast_signed-2.result in
    let s = signed_is c.args.a (omega arith) in
    let t = signed_is c.args.b (omega arith) in
    let fx : FitsSigned w8 x = search rules in
    let fy : FitsSigned w8 y = search rules in
    let fs : FitsSigned w8 (x +ℤ y) = grind (arith, ints) in
    let fc : FitsSigned w8 c.clamp.result = search rules in
    let h = simp to_z-of_z at c.clamp.ensures.value in
    let k = simp to_z-of_z at c.cast_unsigned.ensures in
    let sum : x +ℤ y ≡ channel_value c.args.a +ℤ channel_value c.args.b = ap₂ ◌+ℤ◌ (c.cast_signed.ensures ∙ s) (c.cast_signed-2.ensures ∙ t) in
    k ∙ ap (cast_unsigned w8) (h ∙ ap (λ (z : ℤ). int_max (negsuc 30) (int_min z (pos 31))) sum) ∙ clip_is (channel_value c.args.a +ℤ channel_value c.args.b)
