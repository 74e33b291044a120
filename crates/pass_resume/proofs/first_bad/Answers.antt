use borrow.Author.Count.{below_none, below_more}
use Rattle.std.proofs.Common.{arith, ◌≡◌, ap, sym, ◌∙◌, length, get_or}
use Rattle.laws.proofs.First.{first-is}
use Rattle.pass_resume.specs.Clauses.{bad_bit}
use Rattle.pass_resume.proofs.first_bad.Invariants.{bad}
use Rattle.pass_resume.proofs.first_bad.Goals as goal
use Rattle.pass_resume.proofs.first_bad.Goals.{After-is_bad}

-- the test of a turn
test : (c : After-is_bad) → c.is_bad.result ≡ bad c.args.mask.now c.args.prefix.now c.loop-i.i
test c = c.is_bad.ensures ∙ ap (bad_bit (get_or c.args.prefix.now c.loop-i.i 0)) c.mask_bit.ensures

pub loop-i-init : goal.loop-i-init
loop-i-init c = below_none _

pub returns-then-is_bad : goal.returns-then-is_bad
returns-then-is_bad c =
    let l = c.loop-i in
    sym (first-is (bad c.args.mask.now c.args.prefix.now) _ l.i (omega arith) l.invariant (λ _. sym (test (goal.at.returns-then-is_bad c).After-is_bad) ∙ c.if-is_bad.true))

pub loop-i-preserved : goal.loop-i-preserved
loop-i-preserved c = below_more _ _ c.loop-i.invariant (sym (test (goal.at.loop-i-preserved c).After-is_bad) ∙ c.if-is_bad.false)

pub returns : goal.returns
returns c =
    let l = c.loop-i in
    let prefix = c.args.prefix.now in
    sym (first-is (bad c.args.mask.now prefix) _ (length prefix) (omega arith) (λ k m. l.invariant k (omega arith)) (λ m. absurd (omega arith)))
