-- Document 01, "Language forms by place": "When an answer is an enum, a definition sets out this paper's number and values for each of its cases."
-- Those of the answers to C stand in polar_number/specs/Number.antt. Those of a description and of the quantiser, which C does not get, stand here;
-- the exports for tests promise them.
use Rattle.std.specs.Prelude.{List, ℕ, Float, set, unwrap_or, Ok, Err, Result}
use Rattle.refusal.specs.Judge.{number_of, index_of}
use Rattle.quantiser_level.specs.Level.{plus_zero}
use Rattle.code.specs.declared.Code.{Code}
use Rattle.refusal.specs.declared.Refusal.{Refusal}
use Rattle.quantiser.specs.declared.Summary.{Summary}

-- an accepted description is 0, with n, r, polynomial, start and k; a refused one its refusal, with the numbers as they were
abbrev pub description_numbers : Result Code Refusal → List ℕ → ℕ × List ℕ
description_numbers (Ok c) numbers = (0, set (set (set (set (set numbers 0 c.n) 1 c.r) 2 c.polynomial) 3 c.start) 4 c.k)
description_numbers (Err x) numbers = (number_of x, numbers)

-- quantised samples are their peak, with 0 and the clipped count; a refusal is positive zero, with the refusal and its first index or 0
abbrev pub quantised_numbers : Result Summary Refusal → List ℕ → Float × List ℕ
quantised_numbers (Ok s) numbers = (s.peak, set (set numbers 0 0) 1 s.clipped)
quantised_numbers (Err x) numbers = (plus_zero, set (set numbers 0 (number_of x)) 1 (unwrap_or (index_of x) 0))
