-- `code::start_size` meets its contract.
use mathlib.Core.Path.{sym, ap, ◌∙◌}
use mathlib.Core.Bool.{Bool, cond}
use Prim.Native.Nat.{ℕ}
use borrow.Author.Rules.{rules}
use Rattle.code.proofs.start_size.Statement.{statement}
use Rattle.code.proofs.start_size.Tie as tie

-- by what the test says
abbrev by : Bool → ℕ
by t = cond t 2 0

pub start_size_spec : {M : Type 1} → statement M
start_size_spec =
    tie.close
    (tie.spec
    (λ c κs. search rules)
    (λ c. ap by (sym c.if-has_start.true ∙ c.before.has_start.ensures))
    (λ c. ap by (sym c.if-has_start.false ∙ c.before.has_start.ensures)))
