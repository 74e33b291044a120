-- The bits of the byte that were looked at, and the number that they make.
use Rattle.std.proofs.Common.{◌≡◌, ◌*◌, ◌+◌, ◌≤◌, ℕ, pos, List, length, get_or}
use Rattle.bits.specs.Bit.{number}
use Rattle.walk.specs.declared.Walk.{Walk}
use Rattle.walk.specs.Walked.{walked}
use Rattle.placing.specs.Place.{placed}
use Rattle.placing.proofs.placed_byte.Given as goal

-- the bits of byte m
abbrev pub bit_at : List ℕ → List ℕ → ℕ → ℕ → ℕ
bit_at mask message m b = get_or (placed mask message (8 * length mask)) (8 * m + b) 0

-- after b looks
pub record Looked (mask message : List ℕ) (m : ℕ) (walk : Walk) (byte b : ℕ) : Type 0 where
  pub walked_to : walk ≡ walked mask (8 * m + b)
  pub made : byte ≡ number (bit_at mask message m) b

abbrev pub invariant-loop : goal.invariant-loop
invariant-loop l = (b : ℕ) × (l.counter ≡ pos b) × (b ≤ 8) × Looked l.mask l.message l.m l.walk l.byte b
