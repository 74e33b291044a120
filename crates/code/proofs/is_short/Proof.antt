-- `code::is_short` meets its contract: fewer than 8 bytes are too few for every kind.
use mathlib.Core.Path.{sym, ap, ◌∙◌}
use native.Mathlib.Omega.{arith}
use borrow.Author.Rules.{rules}
use borrow.Author.Tests.{lt-ltb}
use lib.Dec.{ltb}
use lib.ListN.{length}
use Rattle.code.specs.Description.{word, mask_at}
use Rattle.code.proofs.TwoKinds.{mask_at_least}
use Rattle.code.proofs.is_short.Statement.{statement}
use Rattle.code.proofs.is_short.Tie as tie

returns : tie.Need-returns-then-d-lt-FIELDS
returns c =
    let d = c.before.before.args.d.now in
    lt-ltb _ _ c.if-d-lt-FIELDS.true ∙ sym (lt-ltb (length d) (mask_at (word d 2)) (omega (arith, c.if-d-lt-FIELDS.true, mask_at_least (word d 2))))

returns-2 : tie.Need-returns-else-d-lt-FIELDS
returns-2 c =
    let d = c.before.before.before.before.args.d.now in
    ap (ltb (length d)) (c.mask_at.ensures ∙ ap mask_at c.before.read_word.ensures)

pub is_short_spec : {M : Type 1} → statement M
is_short_spec =
    tie.close
    (tie.spec
    (λ c κs. search rules)
    (λ c κs. search rules)
    returns
    returns-2)
