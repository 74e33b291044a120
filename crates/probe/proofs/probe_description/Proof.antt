-- `probe::probe_description` meets its contract: the definition goes by what the description says.
use mathlib.Core.Path.{sym, ap, ◌∙◌}
use mathlib.Core.List.{List}
use Prim.Native.Nat.{ℕ}
use borrow.Author.Rules.{rules}
use Rattle.probe.specs.Numbers.{description_numbers}
use Rattle.probe.proofs.probe_description.Statement.{statement}
use Rattle.probe.proofs.probe_description.Tie as tie
use Rattle.code.specs.Clauses.{Description}

-- by an answer of `describe`
abbrev by : List ℕ → Description → ℕ × List ℕ
by numbers x = description_numbers x numbers

returns : tie.Need-returns-in-Ok
returns c =
    ap (by c.args.numbers.now) (sym c.in-Ok.is ∙ c.read_description.ensures)

returns-2 : tie.Need-returns-in-Err
returns-2 c =
    let numbers = c.args.numbers.now in
    ap (λ (i : ℕ). (i, numbers)) c.refusal_number.ensures ∙ ap (by numbers) (sym c.in-Err.is ∙ c.read_description.ensures)

pub probe_description_spec : {M : Type 1} → statement M
probe_description_spec =
    tie.close
    (tie.spec
    (λ c κs. search rules)
    (λ c. search rules)
    (λ c. search rules)
    (λ c. search rules)
    (λ c. search rules)
    (λ c. search rules)
    (λ c. search rules)
    (λ c. search rules)
    (λ c. search rules)
    (λ c. search rules)
    (λ c. search rules)
    (λ c. search rules)
    (λ c κs. search rules)
    returns
    returns-2)
