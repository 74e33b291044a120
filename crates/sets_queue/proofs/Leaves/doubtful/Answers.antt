use Rattle.std.proofs.Common.{◌+◌, sym, arith}
use Rattle.decoder.proofs.Metric.{doubtful-most}
use Rattle.sets_queue.proofs.Walking.{doubtful-none, doubtful-more}
use Rattle.sets_queue.proofs.Leaves.doubtful.Goals as goal

pub loop-j-init : goal.loop-j-init
loop-j-init c = sym (doubtful-none _ _)

pub overflow_add-count : goal.overflow_add-count
overflow_add-count c =
    omega (arith, doubtful-more c.args.self.now.mask.now c.args.self.now.values.now c.loop-j.j, doubtful-most c.args.self.now.mask.now c.args.self.now.values.now (c.loop-j.j + 1), c.args.self.now.small.fits)

pub loop-j-preserved : goal.loop-j-preserved
loop-j-preserved c = omega (arith, doubtful-more c.args.self.now.mask.now c.args.self.now.values.now c.loop-j.j)
