-- `walk::Walk::look` meets its contract: one look more, and its bit is what the definition adds to the ones.
use mathlib.Core.Path.{ap}
use Prim.Native.Nat.{ℕ, ◌+◌}
use borrow.Author.Rules.{rules}
use Rattle.walk.specs.declared.Walk.{Walk}
use Rattle.walk.proofs.Walk.look.Statement.{statement}
use Rattle.walk.proofs.Walk.look.Tie as tie

-- a walk with one look more, by the bit that it sees
abbrev more : Walk → ℕ → Walk
more w bit = record { looks = w.looks + 1; ones = w.ones + bit }

returns : tie.Need-returns
returns c =
    let k = c.before.before in
    let seen = k.mask_bit-bit.ensures in
    (seen, ap (more k.before.before.args.self) seen)

pub look_spec : {M : Type 1} → statement M
look_spec = tie.close (tie.spec (λ c κs. search rules) (λ c. search rules) (λ c. search rules) (λ c. search rules) returns)
