-- Below the restart of the set's trial the leaf values are trial 1's.
use Rattle.std.proofs.Common.{◌≤◌, length, nat_abs, ap, arith, sym}
use borrow.Author.Tests.{le-ltb}
use Rattle.sets_tried.proofs.Members.{past-most}
use Rattle.sets_queue.proofs.Extending.{with-none}
use Rattle.sets_run.proofs.Leaves.{leaf-before}
use Rattle.sets_run.proofs.generate.Goals as goal

pub returns-else-search-flips : goal.returns-else-search-flips
returns-else-search-flips c = rw (le-ltb _ _ c.if-search-flips.false) (sym (with-none c.args.queue.now))

pub copy_values-requires : goal.copy_values-requires
copy_values-requires c =
    let there = c.requires.2.held (omega arith) in
    let values = c.args.values.now in
    let leaves = c.args.leaves.now in
    let q = c.args.q in
    let room : q ≤ length values = omega (arith, there.q_most, there.values_there) in (
      room,
      omega (arith, there.q_most, there.leaves_there),
      record { at = λ j l. omega (arith, ap nat_abs (leaf-before q values leaves room j l), there.small.at j (omega (arith, there.q_most))) },
    )

pub extend-requires : goal.extend-requires
extend-requires c = record { few = omega arith; below = c.requires.1.below; past = past-most c.requires.1 }
