-- Each need is a law of proofs/Root.antt.
use mathlib.Core.Path.{ap, ap₂, ◌∙◌}
use native.Mathlib.Omega.{arith}
use Rattle.arrays.proofs.Sizes.{fits}
use Rattle.pass_tree.specs.Node.{plus_work}
use Rattle.pass_tree.proofs.StepsMost.{steps_of}
use Rattle.pass.proofs.Root.{pass-forced, rooted, root-at, root-half, root-left, root_again, root-right, root_few, passed}
use Rattle.pass.proofs.pass.Goals as goal

pub returns-then-size-q : goal.returns-then-size-q
returns-then-size-q c = pass-forced c.args.rules.now c.requires (fits c.requires.n_most) c.if-size-q.true c.none.ensures

pub left_values-left-requires : goal.left_values-left-requires
left_values-left-requires c = root-at c.args.rules.now (rooted c.requires c.if-size-q.false)

pub decode_node-l-requires : goal.decode_node-l-requires
decode_node-l-requires c =
    let r = rooted c.requires c.if-size-q.false in
    (root-left c.args.rules.now r c.left_values-left.ensures, root-half c.args.rules.now r)

pub right_values-right-requires : goal.right_values-right-requires
right_values-right-requires c =
    let r = rooted c.requires c.if-size-q.false in
    let half = root-half c.args.rules.now r in
    (root_again c.args.rules.now r c.left_values-left.ensures c.decode_node-l.ensures, omega arith)

pub decode_node-r-requires : goal.decode_node-r-requires
decode_node-r-requires c =
    let r = rooted c.requires c.if-size-q.false in
    let rules = c.args.rules.now in
    (root-right rules r c.left_values-left.ensures c.decode_node-l.ensures c.right_values-right.ensures, root-half rules r)

pub plus-requires : goal.plus-requires
plus-requires c =
    let r = rooted c.requires c.if-size-q.false in
    omega (arith, root_few c.args.rules.now r c.left_values-left.ensures c.decode_node-l.ensures c.right_values-right.ensures c.decode_node-r.ensures)

pub plus-requires-2 : goal.plus-requires-2
plus-requires-2 c =
    let r = rooted c.requires c.if-size-q.false in
    omega (arith, root_few c.args.rules.now r c.left_values-left.ensures c.decode_node-l.ensures c.right_values-right.ensures c.decode_node-r.ensures)

pub plus-requires-3 : goal.plus-requires-3
plus-requires-3 c =
    let r = rooted c.requires c.if-size-q.false in
    let few = root_few c.args.rules.now r c.left_values-left.ensures c.decode_node-l.ensures c.right_values-right.ensures c.decode_node-r.ensures in
    omega (arith, ap steps_of c.plus.ensures, ap steps_of c.plus-2.ensures, few)

pub returns : goal.returns
returns c =
    let r = rooted c.requires c.if-size-q.false in
    let total = c.plus-3.ensures ∙ ap₂ plus_work c.plus.ensures c.plus-2.ensures in
    passed c.args.rules.now r c.left_values-left.ensures c.decode_node-l.ensures c.right_values-right.ensures c.decode_node-r.ensures total
