-- `quantiser_level::level_byte` meets its contract.
use Prim.Native.Nat.{min}
use native.Mathlib.Omega.{arith}
use borrow.Author.Rules.{rules}
use lib.Ieee.{of_bits}
use Rattle.quantiser_level.specs.Level.{quarters}
use Rattle.channel.proofs.Bytes.{minus_byte}
use Rattle.quantiser_level.proofs.Levels.{level-signed}
use Rattle.quantiser_level.proofs.level_byte.Statement.{statement}
use Rattle.quantiser_level.proofs.level_byte.Tie as tie

returns : tie.Need-returns-then-p
unfolding of_bits
returns c = rw (level-signed, c.if-p.true) (minus_byte _ (min 31 (quarters c.args.p)) (omega arith) (omega arith))

returns-2 : tie.Need-returns-else-p
unfolding of_bits
returns-2 c = rw (level-signed, c.if-p.false) (omega arith)

pub level_byte_spec : {M : Type 1} → statement M
level_byte_spec =
    tie.close
    (tie.spec
    (λ c. search rules)
    (λ c. search rules)
    (λ c. search rules)
    (λ c. search rules)
    returns
    returns-2)
