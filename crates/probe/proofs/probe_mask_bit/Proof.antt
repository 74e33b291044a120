-- `probe::probe_mask_bit` meets its contract.
use Prim.Native.Nat.{◌*◌}
use native.Mathlib.Omega.{arith}
use borrow.Author.Rules.{rules}
use borrow.Author.Tests.{lt-ltb, le-ltb}
use lib.ListN.{length}
use Rattle.probe.proofs.probe_mask_bit.Statement.{statement}
use Rattle.probe.proofs.probe_mask_bit.Tie as tie

returns : tie.Need-returns-then-mask-i
returns c =
    rw (le-ltb c.args.i (8 * length c.args.mask.now) (omega arith))

returns-2 : tie.Need-returns
returns-2 c =
    rw (lt-ltb c.args.i (8 * length c.args.mask.now) (omega arith)) c.mask_bit.ensures

pub probe_mask_bit_spec : {M : Type 1} → statement M
probe_mask_bit_spec = tie.close (tie.spec returns (λ c κs. omega arith) (λ c. search rules) returns-2)
