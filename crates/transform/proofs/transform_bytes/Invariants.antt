-- The bytes so far are transformed, and the others are as they were.
use Rattle.std.proofs.Common.{◌≡◌, ℕ, ◌<◌, ◌≤◌, get_or}
use Rattle.transform.specs.Clauses.{transformed_byte}
use Rattle.transform.proofs.transform_bytes.Given as goal

abbrev pub invariant-loop-byte : goal.invariant-loop-byte
invariant-loop-byte l = record {
  made : (k : ℕ) → k < l.byte-index → get_or l.byte-items k 0 ≡ transformed_byte (get_or l.initial.byte-items k 0);
  kept : (k : ℕ) → l.byte-index ≤ k → get_or l.byte-items k 0 ≡ get_or l.initial.byte-items k 0;
}
