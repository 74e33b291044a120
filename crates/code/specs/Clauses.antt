-- What only contracts below the public operations cite. Nothing here need be believed.
use Rattle.std.specs.Prelude.{Bool, List, ℕ, drop, Err, Ok, Result}
use Rattle.refusal.specs.declared.Refusal.{Refusal}
use Rattle.refusal.specs.Judge.{judge, refused_or}
use Rattle.arrays.specs.Sizes.{largest_n}
use Rattle.code.specs.Description.{refusals_up_to, code_of}
use Rattle.code.specs.declared.Code.{Code}

-- what a record describes: a code, or why it describes none
abbrev pub Description : Type 0
Description = Result Code Refusal

-- the refusals of a description, in order
abbrev pub description_refusals : List ℕ → List (Bool × Refusal)
description_refusals d = refusals_up_to largest_n d

-- the answer once the tests of all fields have failed: refusal 8 is left
abbrev pub past_fields : List ℕ → Description
past_fields d = refused_or (judge (drop 8 (description_refusals d))) Err (Ok (code_of d))
