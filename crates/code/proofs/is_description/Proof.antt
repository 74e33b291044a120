-- `code::is_description` meets its contract.
use mathlib.Core.Path.{◌∙◌}
use borrow.Author.Rules.{rules}
use borrow.Author.Tests.{eq-eqb, ne_eqb}
use Rattle.laws.proofs.Choice.{or_first, or_second}
use Rattle.code.proofs.is_description.Statement.{statement}
use Rattle.code.proofs.is_description.Tie as tie

pub is_description_spec : {M : Type 1} → statement M
is_description_spec =
    tie.close
    (tie.spec
    (λ c κs. search rules)
    (λ c. or_first _ _ (eq-eqb _ _ c.if-kind-eq1.true))
    (λ c. c.has_start.ensures ∙ or_second _ _ (ne_eqb _ _ c.before.if-kind-eq1.false)))
