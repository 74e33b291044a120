-- `probe::probe_unpack` meets its contract.
use mathlib.Core.Path.{ap}
use mathlib.Core.List.{List}
use Prim.Native.Nat.{ℕ, ◌*◌}
use native.Mathlib.Omega.{arith}
use borrow.Author.Rules.{rules}
use borrow.Author.Tests.{lt-ltb, le-ltb}
use lib.ListN.{length}
use Rattle.probe.proofs.probe_unpack.Statement.{statement}
use Rattle.probe.proofs.probe_unpack.Tie as tie

returns : tie.Need-returns-then-bytes-bytes_for
returns c =
    rw (lt-ltb (8 * length c.args.bytes.now) (length c.args.bits.now) (omega (arith, c.bytes_for.ensures)))

returns-2 : tie.Need-returns
returns-2 c =
    rw (le-ltb (8 * length c.args.bytes.now) (length c.args.bits.now) (omega arith))
    (ap (λ (bits : List ℕ). (0, bits)) c.unpack.ensures)

pub probe_unpack_spec : {M : Type 1} → statement M
probe_unpack_spec =
    tie.close (tie.spec (λ c κs. search rules) returns (λ c κs. omega arith) (λ c. search rules) returns-2)
