-- Document 01, "Resume" and "Sample quantiser": refusals 13, 18 and 22 come "with its first index", the first at which a test holds.
use Rattle.std.specs.Prelude.{Bool, cond, ℕ, zero, suc}

-- the first index below n at which the test holds, or n if there is none
unfoldable pub first_where : (ℕ → Bool) → ℕ → ℕ
first_where test zero = 0
first_where test (suc n) = cond (test 0) 0 (suc (first_where (λ i. test (suc i)) n))
