-- Each turn reads two of the node's values and a sum.
use mathlib.Core.Path.{sym, ap, ◌∙◌}
use native.Mathlib.Omega.{arith}
use lib.ListN.{length}
use Rattle.laws.specs.Clauses.{segment}
use Rattle.laws.proofs.Segment.{get_or-segment}
use Rattle.values.specs.Values.{right_values}
use Rattle.pass_halves.proofs.Layers.{addable_reads, unchanged, node_reads, computing_none, right-turn, computed}
use Rattle.pass_halves.proofs.right_values.Goals as goal

pub loop-j-init : goal.loop-j-init
loop-j-init g c = computing_none

pub pair-a-requires : goal.pair-a-requires
pair-a-requires g c = (omega arith, ap length (unchanged c.requires.0 c.loop-j.invariant.filling) ∙ c.requires.0.long)

pub g-requires : goal.g-requires
g-requires g c =
    let p = c.requires.0 in
    let reads = node_reads p c.loop-j.invariant.filling c.pair-a.ensures.0 c.pair-a.ensures.1 in
    omega (arith, addable_reads (omega arith) p.small reads)

pub loop-j-preserved : goal.loop-j-preserved
loop-j-preserved g c =
    let s = c.args in
    let inv = c.loop-j.invariant in
    let reads = node_reads c.requires.0 inv.filling c.pair-a.ensures.0 c.pair-a.ensures.1 in
    let sum = sym (get_or-segment s.sums.now s.base s.h c.loop-j.j 0 (omega arith)) in
    right-turn (record { sfits = c.g.type_inv }) (omega arith) (segment s.sums.now s.base s.h) inv reads sum c.g.ensures

pub returns : goal.returns
unfolding right_values
returns g c = computed c.loop-j.invariant (omega arith) (omega (arith, c.requires.0.whole, c.requires.0.fits)) c.of.ensures
