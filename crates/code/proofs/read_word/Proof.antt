-- `code::read_word` meets its contract: two bytes are below 2^16.
use Prim.Native.Nat.{◌+◌}
use native.Mathlib.Omega.{arith}
use borrow.Author.Rules.{rules}
use Rattle.code.proofs.read_word.Statement.{statement}
use Rattle.code.proofs.read_word.Tie as tie

pub read_word_spec : {M : Type 1} → statement M
read_word_spec =
    tie.close
    (tie.spec
    (λ c. search rules)
    (λ c. omega (arith, c.shared_slice_known-1.given c.before.args.i))
    (λ c. search rules)
    (λ c. search rules)
    (λ c. omega (arith, c.shared_slice_known-2-1.given (c.before.before.args.i + 1)))
    (λ c. omega (arith, c.shared_slice_known-2-1.given (c.before.before.args.i + 1)))
    (λ c.
    let i = c.before.before.args.i in
    omega (arith, c.before.shared_slice_known-1.given i, c.shared_slice_known-2-1.given (i + 1)))
    (λ c. search rules))
