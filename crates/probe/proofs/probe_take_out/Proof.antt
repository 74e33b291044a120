-- `probe::probe_take_out` meets its contract.
use mathlib.Core.Path.{ap₂}
use mathlib.Core.List.{List}
use Prim.Native.Nat.{ℕ, ◌*◌, ◌≤◌}
use native.Mathlib.Omega.{arith}
use borrow.Author.Rules.{rules}
use borrow.Author.Tests.{lt-ltb, le-ltb}
use lib.ListN.{length}
use Rattle.probe.proofs.probe_take_out.Statement.{statement}
use Rattle.probe.proofs.probe_take_out.Tie as tie

-- there is a bit for each index
bits : (c : tie.Else-u-mask) → 8 * length c.args.mask.now ≤ length c.args.u.now
bits c = omega arith

-- and room for it
room : (c : tie.Else-message-mask) → 8 * length c.args.mask.now ≤ length c.args.message.now
room c = omega arith

returns : tie.Need-returns-then-u-mask
returns c =
    rw (lt-ltb (length c.args.u.now) (8 * length c.args.mask.now) (omega arith))

returns-2 : tie.Need-returns-then-message-mask
returns-2 c =
    rw (le-ltb _ _ (bits c.before), lt-ltb (length c.args.message.now) (8 * length c.args.mask.now) (omega arith))

returns-3 : tie.Need-returns
returns-3 c =
    rw (le-ltb _ _ (bits c.before.before.before.before.before), le-ltb _ _ (room c.before.before.before.before))
    (ap₂ (λ (x : ℕ) (message : List ℕ). (x, message)) c.take_out.ensures.0 c.take_out.ensures.1)

pub probe_take_out_spec : {M : Type 1} → statement M
probe_take_out_spec =
    tie.close
    (tie.spec
    returns
    returns-2
    (λ c κs. (bits c.before.before, room c.before))
    (λ c. search rules)
    returns-3)
