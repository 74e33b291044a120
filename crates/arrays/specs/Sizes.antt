-- Document 02, request 2.3: n is at most 12. Document 01, "Code description", says 10.
use Rattle.std.specs.Prelude.{ℕ}

-- the largest n
abbrev pub largest_n : ℕ
largest_n = 12
