-- `hearing_state::code_by` meets its contract.
use mathlib.Core.Path.{◌≡◌, sym, ap, ◌∙◌}
use native.Mathlib.Omega.{arith}
use borrow.Author.Rules.{rules}
use Rattle.code.specs.declared.Code.{Code}
use Rattle.code.specs.Description.{describe}
use Rattle.code.proofs.Facts.{described}
use Rattle.hearing_state.specs.State.{State, description_of}
use Rattle.hearing_state.specs.Clauses.{state_by}
use Rattle.hearing_state.proofs.States.{code_by, code_by_lem}
use Rattle.hearing_state.proofs.code_by.Statement.{statement}
use Rattle.hearing_state.proofs.code_by.Tie as tie
use Rattle.std.specs.Prelude.{Ok}

-- the state by its parts
abbrev state : tie.Start → State
state s = let x = s.args in state_by x.description.now x.count x.values.now

-- the code that is described
module _ (c : tie.In-Ok) where
  abbrev s : tie.Start
  s = c.before.before.before.before

  abbrev code : Code
  code = c.in-Ok.code

  accepted : describe (description_of (state s)) ≡ Ok code
  accepted = sym c.described_in.ensures ∙ c.in-Ok.is

returns : tie.Need-returns-then-is_state
returns c =
    sym (code_by_lem (state (s c.before.before)) (code c.before.before) _ (accepted c.before.before) (sym c.is_state.ensures ∙ c.if-is_state.true))

returns-2 : tie.Need-returns-else-is_state
returns-2 c =
    sym (code_by_lem (state (s c.before.before)) (code c.before.before) _ (accepted c.before.before) (sym c.is_state.ensures ∙ c.if-is_state.false))

returns-3 : tie.Need-returns-in-Err
returns-3 c = sym (ap (code_by (state c.before.before.before.before)) (sym c.described_in.ensures ∙ c.in-Err.is))

pub code_by_spec : {M : Type 1} → statement M
code_by_spec =
    tie.close
    (tie.spec
    (λ c κs. omega (arith, c.requires.description_size))
    (λ c. search rules)
    (λ c κs. ((described _ _ (accepted c)).coded.n_most, c.requires))
    returns
    (λ c. search rules)
    returns-2
    returns-3)
