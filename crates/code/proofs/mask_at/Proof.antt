-- `code::mask_at` meets its contract.
use mathlib.Core.Path.{◌≡◌, ap}
use Prim.Native.Nat.{ℕ, ◌+◌}
use native.Mathlib.Omega.{arith}
use borrow.Author.Rules.{rules}
use Rattle.code.specs.Description.{mask_at}
use Rattle.code.proofs.TwoKinds.{mask_at-most}
use Rattle.code.proofs.mask_at.Statement.{statement}
use Rattle.code.proofs.mask_at.Tie as tie

sum_is : (c : tie.After-start_size) → 8 + c.start_size.result ≡ mask_at c.before.args.kind
sum_is c = ap (λ (size : ℕ). 8 + size) c.start_size.ensures

pub mask_at_spec : {M : Type 1} → statement M
mask_at_spec =
    tie.close (tie.spec (λ c κs. search rules) (λ c. omega (arith, sum_is c, mask_at-most c.before.args.kind)) sum_is)
