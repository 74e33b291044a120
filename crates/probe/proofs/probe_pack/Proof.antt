-- `probe::probe_pack` meets its contract.
use mathlib.Core.Path.{◌≡◌, sym, ap, ◌∙◌}
use mathlib.Core.Bool.{true}
use mathlib.Core.List.{List}
use Prim.Native.Nat.{ℕ}
use borrow.Author.Rules.{rules}
use borrow.Author.Tests.{eq-eqb, ne_eqb}
use lib.ListN.{length}
use Rattle.bits.specs.Packing.{bytes_for}
use Rattle.probe.specs.Clauses.{all_bits}
use Rattle.probe.proofs.AllBits.{all-bits}
use Rattle.probe.proofs.probe_pack.Statement.{statement}
use Rattle.probe.proofs.probe_pack.Tie as tie

are-bits : (c : tie.Else-not-are_bits) → all_bits c.args.bits.now ≡ true
are-bits c = sym c.are_bits.ensures ∙ c.if-not-are_bits.false

full : (c : tie.Else-bytes-bytes_for) → length c.args.bytes.now ≡ bytes_for (length c.args.bits.now)
full c = c.if-bytes-bytes_for.false ∙ c.bytes_for.ensures

returns : tie.Need-returns-then-not-are_bits
returns c = rw (sym c.are_bits.ensures ∙ c.if-not-are_bits.true)

returns-2 : tie.Need-returns-then-bytes-bytes_for
returns-2 c = rw (are-bits c.before.before, ne_eqb _ _ (λ e. c.if-bytes-bytes_for.true (e ∙ sym c.bytes_for.ensures)))

returns-3 : tie.Need-returns
returns-3 c =
    rw (are-bits c.before.before.before.before.before.before, eq-eqb _ _ (full c.before.before.before.before)) (ap (λ (bytes : List ℕ). (0, bytes)) c.pack.ensures)

pub probe_pack_spec : {M : Type 1} → statement M
probe_pack_spec =
    tie.close
    (tie.spec
    (λ c κs. search rules)
    returns
    (λ c κs. search rules)
    returns-2
    (λ c κs. (all-bits _ (are-bits c.before.before.before), full c.before))
    (λ c. search rules)
    returns-3)
