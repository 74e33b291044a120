-- Each turn reads two of the node's values.
use native.Mathlib.Omega.{arith}
use mathlib.Core.Path.{ap, ◌∙◌}
use lib.ListN.{length}
use Rattle.values.specs.Values.{left_values}
use Rattle.pass_halves.proofs.Layers.{addable_reads, unchanged, node_reads, computing_none, left-turn, computed-all, computed-none}
use Rattle.pass_halves.proofs.left_values.Goals as goal

pub returns-then-forced : goal.returns-then-forced
returns-then-forced g c = computed-none (left_values c.args.h (g.V.Values.values c.args.node.now c.args.h c.args.work.now)) c.if-forced.true c.none.ensures

pub loop-j-init : goal.loop-j-init
loop-j-init g c = computing_none

pub pair-a-requires : goal.pair-a-requires
pair-a-requires g c = (omega arith, ap length (unchanged c.requires c.loop-j.invariant.filling) ∙ c.requires.long)

pub f-requires : goal.f-requires
f-requires g c =
    let reads = node_reads c.requires c.loop-j.invariant.filling c.pair-a.ensures.0 c.pair-a.ensures.1 in
    let few = addable_reads (omega arith) c.requires.small reads in
    (omega (arith, few), omega (arith, few))

pub loop-j-preserved : goal.loop-j-preserved
loop-j-preserved g c =
    let inv = c.loop-j.invariant in
    let reads = node_reads c.requires inv.filling c.pair-a.ensures.0 c.pair-a.ensures.1 in
    left-turn (record { sfits = c.f.type_inv }) (omega arith) inv reads c.f.ensures

pub returns : goal.returns
unfolding left_values
returns g c = computed-all c.if-forced.false c.loop-j.invariant (omega arith) (omega (arith, c.requires.whole, c.requires.fits)) c.of.ensures
