-- `quantiser_level::quantise_one` meets its contract.
use mathlib.Core.Path.{◌≡◌}
use Prim.Native.Nat.{ℕ}
use native.Mathlib.Omega.{arith}
use borrow.Author.Rules.{rules}
use lib.Ieee.{Float, binary32, mul}
use Rattle.quantiser_level.specs.declared.Level.{Level}
use Rattle.quantiser_level.proofs.Levels.{one_if}
use Rattle.quantiser_level.proofs.quantise_one.Statement.{statement}
use Rattle.quantiser_level.proofs.quantise_one.Tie as tie

-- a level by its fields
made : {a b k l : ℕ} {m x : Float} → a ≡ b → k ≡ l → m ≡ x → ◌≡◌ {A = Level} record { byte = a; clipped = k; magnitude = m } record { byte = b; clipped = l; magnitude = x }
made e f g = rw (e, f, g)

returns : tie.Need-returns
returns c =
    let s = c.args in
    made c.level_byte-byte.ensures (one_if _ (mul binary32 s.scale s.y) (λ h. omega arith) (λ h. omega arith)) c.absolute-magnitude.ensures

pub quantise_one_spec : {M : Type 1} → statement M
quantise_one_spec =
    tie.close
    (tie.spec
    (λ c κs. c.requires)
    (λ c κs. search rules)
    (λ c κs. c.before.before.requires)
    (λ c. search rules)
    returns)
