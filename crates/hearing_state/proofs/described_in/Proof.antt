-- `hearing_state::described_in` meets its contract.
use mathlib.Core.Path.{ap, ◌∙◌}
use borrow.Author.Rules.{rules}
use Rattle.code.specs.Description.{describe}
use Rattle.hearing_state.proofs.described_in.Statement.{statement}
use Rattle.hearing_state.proofs.described_in.Tie as tie

pub described_in_spec : {M : Type 1} → statement M
described_in_spec =
    tie.close
    (tie.spec
    (λ c κs. search rules)
    (λ c κs. search rules)
    (λ c. c.read_description.ensures ∙ ap describe c.record_in.ensures))
