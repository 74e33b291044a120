-- The bits of the information indices below the next look are taken.
use Rattle.std.proofs.Common.{◌≡◌, ℕ, List, length}
use Rattle.laws.specs.Clauses.{splice}
use Rattle.walk.specs.declared.Walk.{Walk}
use Rattle.walk.specs.Walked.{walked}
use Rattle.placing.specs.Place.{taken}
use Rattle.placing.proofs.take_out.Given as goal

-- after i looks
pub record Took (mask u w message : List ℕ) (walk : Walk) (i : ℕ) : Type 0 where
  pub walked_to : walk ≡ walked mask i
  pub same : length message ≡ length w
  pub made : message ≡ splice w 0 (taken mask u i)

abbrev pub invariant-loop-bit : goal.invariant-loop-bit
invariant-loop-bit l = Took l.mask l.u l.fn.message l.message l.walk l.bit-index
