-- `probe::probe_ones` meets its contract.
use borrow.Author.Rules.{rules}
use borrow.Author.Tests.{lt-ltb, le-ltb}
use Rattle.probe.proofs.probe_ones.Statement.{statement}
use Rattle.probe.proofs.probe_ones.Tie as tie

pub probe_ones_spec : {M : Type 1} → statement M
probe_ones_spec =
    tie.close
    (tie.spec
    (λ c. rw (lt-ltb _ _ c.if-mask-gt65536.true))
    (λ c κs. search rules)
    (λ c. rw (le-ltb _ _ c.if-mask-gt65536.false) c.ones.ensures))
