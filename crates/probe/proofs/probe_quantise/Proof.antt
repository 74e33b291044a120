-- `probe::probe_quantise` meets its contract: the definition goes by the answer.
use mathlib.Core.Path.{◌≡◌, sym, ap, ◌∙◌}
use mathlib.Core.List.{List}
use Prim.Native.Nat.{ℕ}
use borrow.Author.Rules.{rules}
use lib.Ieee.{of_bits}
use Rattle.probe.specs.Numbers.{quantised_numbers}
use Rattle.probe.proofs.probe_quantise.Statement.{statement}
use Rattle.probe.proofs.probe_quantise.Tie as tie
use Rattle.quantiser.specs.Clauses.{Quantised}

-- an answer a that was found, with the output that it left
by : {a b : Quantised} {left : List ℕ} {x : Quantised × List ℕ} (numbers : List ℕ) → b ≡ a → (b, left) ≡ x
    → (quantised_numbers a numbers ≡ quantised_numbers x.0 numbers) × (left ≡ x.1)
by numbers e f =
    (ap (λ (a : Quantised). quantised_numbers a numbers) (sym e ∙ ap (λ (y : Quantised × List ℕ). y.0) f), ap (λ (y : Quantised × List ℕ). y.1) f)

returns : tie.Need-returns-in-Ok
returns c =
    by c.args.numbers.now c.in-Ok.is c.quantise.ensures

returns-2 : tie.Need-returns-in-Err
unfolding of_bits
returns-2 c =
    let numbers = c.args.numbers.now in
    rw (c.refusal_number.ensures, c.refusal_index.ensures) (by numbers c.in-Err.is c.quantise.ensures)

pub probe_quantise_spec : {M : Type 1} → statement M
probe_quantise_spec =
    tie.close
    (tie.spec
    (λ c κs. search rules)
    (λ c. search rules)
    (λ c. search rules)
    (λ c. search rules)
    (λ c. search rules)
    (λ c κs. search rules)
    (λ c. search rules)
    (λ c κs. search rules)
    (λ c. search rules)
    (λ c. search rules)
    returns
    (λ c. search rules)
    returns-2)
