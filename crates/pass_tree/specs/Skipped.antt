-- Document 01, "Resume": the steps that a prefix of q bits saves, the sum of q − (q mod 2^j) for j = 0..s − 1.
use Rattle.std.specs.Prelude.{ℕ, zero, suc, ◌+◌, ◌-◌, ◌%◌, ◌^◌}

unfoldable pub skipped : ℕ → ℕ → ℕ
skipped zero q = 0
skipped (suc s) q = skipped s q + (q - q % 2 ^ s)
