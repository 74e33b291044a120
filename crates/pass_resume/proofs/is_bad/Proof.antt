-- `pass_resume::is_bad` meets its contract.
use mathlib.Core.Path.{sym, ap, ◌∙◌}
use mathlib.Core.Bool.{Bool, ◌&&◌}
use borrow.Author.Tests.{lt-ltb, le-ltb, eq-eqb, ne_eqb}
use lib.Dec.{eqb}
use Rattle.laws.proofs.Choice.{or_first, or_second}
use Rattle.pass_resume.proofs.is_bad.Statement.{statement}
use Rattle.pass_resume.proofs.is_bad.Tie as tie

returns-2 : tie.Need-returns-then-byte-eq1
returns-2 c =
    let s = c.args in
    ap (λ (t : Bool). t && eqb s.marked 0) (sym (eq-eqb _ _ c.if-byte-eq1.true)) ∙ or_second _ _ (le-ltb _ _ c.if-byte-gt1.false)

returns-3 : tie.Need-returns-else-byte-eq1
returns-3 c =
    let s = c.args in
    let e = ne_eqb s.byte 1 c.if-byte-eq1.false in
    e ∙ ap (λ (t : Bool). t && eqb s.marked 0) (sym e) ∙ or_second _ _ (le-ltb _ _ c.if-byte-gt1.false)

pub is_bad_spec : {M : Type 1} → statement M
is_bad_spec = tie.close (tie.spec (λ c. or_first _ _ (lt-ltb _ _ c.if-byte-gt1.true)) returns-2 returns-3)
