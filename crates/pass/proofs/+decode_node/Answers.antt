-- Each need is a law of proofs/Recursion.antt or proofs/Ending.antt.
use mathlib.Core.Path.{ap, ap₂, ◌∙◌}
use native.Mathlib.Omega.{arith}
use Rattle.pass_tree.specs.Node.{plus_work}
use Rattle.pass_tree.proofs.StepsMost.{steps_of}
use Rattle.pass.proofs.Ending.{forced-worked}
use Rattle.pass.proofs.Recursion.{inner, inner_at, inner_half, inner_left, inner_again, inner_right, inner_few, inner_combine, inner_worked}
use Rattle.pass.proofs.+decode_node.Goals as goal

pub returns-then-base-size : goal.returns-then-base-size
returns-then-base-size t c = forced-worked c.args.rules.now c.requires.0 c.if-base-size.true c.rebuild.ensures c.none.ensures

pub left_values-left-requires : goal.left_values-left-requires
left_values-left-requires t c =
    let i = inner c.if-layer-eq0.false c.requires.0 c.if-base-size.false c.requires.1 in
    inner_at c.args.rules.now i

pub decode_node-l-requires : goal.decode_node-l-requires
decode_node-l-requires t c =
    let i = inner c.if-layer-eq0.false c.requires.0 c.if-base-size.false c.requires.1 in
    let rules = c.args.rules.now in
    (omega (arith, i.halving.below), (inner_left rules i c.left_values-left.ensures, inner_half rules i))

pub right_values-right-requires : goal.right_values-right-requires
right_values-right-requires t c =
    let i = inner c.if-layer-eq0.false c.requires.0 c.if-base-size.false c.requires.1 in
    (inner_again c.args.rules.now i c.left_values-left.ensures c.decode_node-l.ensures, omega (arith, i.halving.two, i.pre.fits))

pub decode_node-r-requires : goal.decode_node-r-requires
decode_node-r-requires t c =
    let i = inner c.if-layer-eq0.false c.requires.0 c.if-base-size.false c.requires.1 in
    let rules = c.args.rules.now in
    let right = inner_right rules i c.left_values-left.ensures c.decode_node-l.ensures c.right_values-right.ensures in
    (omega (arith, i.halving.below), (right, inner_half rules i))

pub combine-requires : goal.combine-requires
combine-requires t c =
    let i = inner c.if-layer-eq0.false c.requires.0 c.if-base-size.false c.requires.1 in
    inner_combine c.args.rules.now i c.left_values-left.ensures c.decode_node-l.ensures c.right_values-right.ensures c.decode_node-r.ensures

pub plus-requires : goal.plus-requires
plus-requires t c =
    let i = inner c.if-layer-eq0.false c.requires.0 c.if-base-size.false c.requires.1 in
    omega (arith, inner_few c.args.rules.now i c.left_values-left.ensures c.decode_node-l.ensures c.right_values-right.ensures c.decode_node-r.ensures)

pub plus-requires-2 : goal.plus-requires-2
plus-requires-2 t c =
    let i = inner c.if-layer-eq0.false c.requires.0 c.if-base-size.false c.requires.1 in
    omega (arith, inner_few c.args.rules.now i c.left_values-left.ensures c.decode_node-l.ensures c.right_values-right.ensures c.decode_node-r.ensures)

pub plus-requires-3 : goal.plus-requires-3
plus-requires-3 t c =
    let i = inner c.if-layer-eq0.false c.requires.0 c.if-base-size.false c.requires.1 in
    let few = inner_few c.args.rules.now i c.left_values-left.ensures c.decode_node-l.ensures c.right_values-right.ensures c.decode_node-r.ensures in
    omega (arith, ap steps_of c.plus.ensures, ap steps_of c.plus-2.ensures, few)

pub returns : goal.returns
returns t c =
    let i = inner c.if-layer-eq0.false c.requires.0 c.if-base-size.false c.requires.1 in
    let total = c.plus-3.ensures ∙ ap₂ plus_work c.plus.ensures c.plus-2.ensures in
    inner_worked c.args.rules.now i c.left_values-left.ensures c.decode_node-l.ensures c.right_values-right.ensures c.decode_node-r.ensures total c.combine.ensures
