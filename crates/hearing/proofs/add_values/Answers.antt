use Rattle.std.proofs.Common.{◌<◌, length, get_or, nat_abs, ap, ◌∙◌, arith, ℕ}
use Rattle.laws.proofs.Filling.{filling_none, filling_more, filling_past, filling_done}
use Rattle.channel.specs.Channel.{channel_value}
use Rattle.hearing.specs.Clauses.{clipped_sum}
use Rattle.hearing.proofs.add_values.Goals as goal

pub loop-i-init : goal.loop-i-init
loop-i-init c = filling_none

-- a turn reads a value that is not yet a sum
pub clipped_sum-requires : goal.clipped_sum-requires
clipped_sum-requires c =
    let i = c.loop-i.i in
    let below : i < length c.args.channel.now = omega arith in
    let kept = filling_past c.loop-i.invariant i 0 (omega arith) in
    (omega (arith, ap (λ (b : ℕ). nat_abs (channel_value b)) kept, c.requires.values_small i below), c.requires.channel_small i below)

pub loop-i-preserved : goal.loop-i-preserved
loop-i-preserved c =
    let l = c.loop-i in
    let kept = filling_past l.invariant l.i 0 (omega arith) in
    filling_more l.invariant _ _ (omega arith) (omega arith)
    (c.clipped_sum.ensures ∙ ap (λ (b : ℕ). clipped_sum b (get_or c.args.channel.now l.i 0)) kept)

pub returns : goal.returns
returns c = filling_done c.loop-i.invariant (omega arith) (omega (arith, c.requires.room))
