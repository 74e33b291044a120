-- `quantiser_level::absolute` meets its contract.
use mathlib.Core.Path.{sym, subst}
use borrow.Author.Rules.{rules}
use lib.Dec.{T}
use lib.Ieee.{binary32, fits}
use Rattle.quantiser_level.proofs.Pattern.{magnitude-bits, cleared-number}
use Rattle.quantiser_level.proofs.absolute.Statement.{statement}
use Rattle.quantiser_level.proofs.absolute.Tie as tie

-- an f32 holds what fits the format
held : (c : tie.Start) → T (fits binary32 c.args.p)
held c = subst T (sym c.well_formed.0.1) tt

pub absolute_spec : {M : Type 1} → statement M
absolute_spec =
    tie.close
    (tie.spec
    (λ c. search rules)
    (λ c. cleared-number c.args.p (held c) c.requires)
    (λ c. magnitude-bits c.args.p (held c)))
