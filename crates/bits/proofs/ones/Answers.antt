-- A byte adds its count of ones, which is at most 8.
use Rattle.std.proofs.Common.{◌*◌, ◌<◌, refl, get_or, arith}
use lib.Count as count
use Rattle.bits.specs.Mask.{ones_below}
use Rattle.bits.proofs.Mask.{ones_next, ones_le}
use Rattle.bits.proofs.ones.Goals as goal

pub loop-byte-init : goal.loop-byte-init
unfolding ones_below
loop-byte-init c = refl

pub overflow_add-count : goal.overflow_add-count
overflow_add-count c =
    let small : get_or c.args.mask.now c.loop-byte.byte-index 0 < 256 = omega arith in
    omega (arith, count.ones-le 8 _ small, ones_le c.args.mask.now (8 * c.loop-byte.byte-index))

pub loop-byte-preserved : goal.loop-byte-preserved
loop-byte-preserved c =
    let small : get_or c.args.mask.now c.loop-byte.byte-index 0 < 256 = omega arith in
    cc (ones_next _ _ small)
