-- The segment is filled, byte by byte.
use Rattle.std.proofs.Common.{refl, sym, ap, ◌∙◌, ℕ, get_or, arith}
use Rattle.laws.specs.Table.{table}
use Rattle.laws.specs.Clauses.{splice, segment}
use Rattle.laws.proofs.Table.{table-get_or}
use Rattle.laws.proofs.Segment.{length-segment, get_or-segment}
use Rattle.laws.proofs.Filling.{filling_none, filling_more, filling_done}
use Rattle.arrays.proofs.copy.Goals as goal

pub loop-j-init : goal.loop-j-init
loop-j-init c = filling_none

pub loop-j-preserved : goal.loop-j-preserved
loop-j-preserved c =
    let a = c.args in
    let l = c.loop-j in
    filling_more l.invariant _ _ (omega arith) refl (sym (get_or-segment a.source.now a.start a.count l.j 0 (omega arith)))

pub returns : goal.returns
returns c =
    let a = c.args in
    let s = segment a.source.now a.start a.count in
    let long = length-segment a.source.now a.start a.count (omega (arith, c.requires)) in
    filling_done c.loop-j.invariant (omega arith) (omega (arith, c.requires))
    ∙ ap (λ (n : ℕ). splice a.target.now a.at (table (λ i. get_or s i 0) n)) (sym long)
    ∙ ap (splice a.target.now a.at) (table-get_or s 0)
