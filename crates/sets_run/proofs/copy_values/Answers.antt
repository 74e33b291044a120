-- The array's front is filled, value by value.
use Rattle.std.proofs.Common.{sym, ap, ◌∙◌, ℕ, pos, get_or, take, get_or-take, w32, arith}
use Rattle.std.proofs.lemmas.List.{length-take-le}
use Rattle.laws.specs.Table.{table}
use Rattle.laws.specs.Clauses.{splice}
use Rattle.laws.proofs.Table.{table-get_or}
use Rattle.laws.proofs.Signed.{back-small}
use Rattle.laws.proofs.Filling.{filling_none, filling_more, filling_done}
use Rattle.sets_run.proofs.copy_values.Goals as goal

pub loop-j-init : goal.loop-j-init
loop-j-init c = filling_none

pub loop-j-preserved : goal.loop-j-preserved
loop-j-preserved c =
    let l = c.loop-j in
    let source = c.args.source.now in
    filling_more l.invariant _ _ (omega arith) (omega arith)
    (back-small w32 (get_or source l.j (pos 0)) (omega (arith, c.requires.2.at l.j (omega arith)))
    ∙ sym (get_or-take c.args.count source l.j (pos 0) (omega arith)))

pub returns : goal.returns
returns c =
    let source = c.args.source.now in
    let count = c.args.count in
    let target = c.args.target.now in
    let long = length-take-le count source (omega (arith, c.requires)) in
    filling_done c.loop-j.invariant (omega arith) (omega (arith, c.requires))
    ∙ ap (λ (n : ℕ). splice target 0 (table (λ i. get_or (take count source) i (pos 0)) n)) (sym long)
    ∙ ap (splice target 0) (table-get_or (take count source) (pos 0))
