-- Document 02, request 2.3: "Old descriptions must decode to what they did, with equal step reports." `old_answers` of proofs/Longer.antt
-- proves it of any two largest n.
use Rattle.std.specs.Prelude.{◌≡◌, List, ℕ, ◌≤◌, Err}
use Rattle.refusal.specs.declared.Refusal.{Refusal}
use Rattle.code.specs.declared.Code.{Code}
use Rattle.code.specs.Description.{describe_up_to, on_description}
use Rattle.refusal.specs.declared.Refusal.TheVariants.{CodeLength}

-- An operation is what it does with a refusal and with a code: encode, resume and every decoder at every restart are each `on_description (describe d) ..`,
-- and `describe` is `describe_up_to largest_n`. (A hearing has the largest n in the sizes of its parts besides.) With n up to `small` and with n up to `large`
-- an operation has one answer to the bytes d, output and steps included, unless d is refused as 4 with n up to `small`. Document 01's largest n is 10.
abbrev pub OldAnswers : Type 1
OldAnswers =
    (X : Type 0) (refuse : Refusal → X) (go : Code → X) (small large : ℕ) (d : List ℕ)
    → small ≤ large → (describe_up_to small d ≡ Err CodeLength → ⊥)
    → on_description (describe_up_to small d) refuse go ≡ on_description (describe_up_to large d) refuse go
