-- `hearing_state::is_state` meets its contract, test by test.
use mathlib.Core.Path.{sym, ap, ◌∙◌}
use mathlib.Core.Bool.{Bool, ◌&&◌}
use native.Mathlib.Omega.{arith}
use Rattle.hearing.specs.Hearing.{is_hearing}
use Rattle.hearing.specs.Clauses.{hearing_by}
use Rattle.hearing_state.proofs.is_state.Statement.{statement}
use Rattle.hearing_state.proofs.is_state.Tie as tie

-- the answer, by the first test
abbrev by : tie.Start → Bool → Bool
by s t = let x = s.args in t && is_hearing x.code (hearing_by x.count x.values.now)

returns : tie.Need-returns-then-ends_in_zeros
returns c =
    c.is_hearing.ensures ∙ ap (by c.before.before.before.before.before) (sym c.if-ends_in_zeros.true ∙ c.ends_in_zeros.ensures)

returns-2 : tie.Need-returns
returns-2 c = ap (by c.before.before.before.before) (sym c.if-ends_in_zeros.false ∙ c.ends_in_zeros.ensures)

pub is_state_spec : {M : Type 1} → statement M
is_state_spec =
    tie.close
    (tie.spec
    (λ c κs. omega (arith, c.requires.1.description_size))
    (λ c κs. (c.requires.0, c.requires.1.values_size))
    returns
    returns-2)
