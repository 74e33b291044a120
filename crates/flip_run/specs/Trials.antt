-- Document 01, "Flip decoding, full and restarted": the order of flips, and the first trial that passes.
use Rattle.std.specs.Prelude.{Bool, cond, List, [], ◌∷◌, ℕ, ◌+◌, ℤ, take, Result, Ok, Err}
use Rattle.laws.specs.Insert.{sort_by}
use Rattle.bits.specs.Packing.{packed}
use Rattle.code.specs.declared.Code.{Code}
use Rattle.code.specs.Code.{code_length}
use Rattle.pass_tree.specs.Node.{Out}
use Rattle.flip_order.specs.Order.{information, before}
use Rattle.flip_trial.specs.Trial.{first_trial, message_in}
use Rattle.flip_run.specs.declared.Tally.{Tally}
use Rattle.flip_run.specs.declared.DecodingError.{DecodingError}
use Rattle.flip_run.specs.declared.DecodingError.TheVariants.{NonePassed}

-- the order of flipped indices: trial t, from 2, flips the one at place t - 1
abbrev pub flip_order : List ℕ → Code → List ℤ → List ℕ
flip_order mask c v = sort_by (before (first_trial mask c v).leaves) (information mask (code_length c))

-- how a run of trials ends
pub data Verdict : Type 0 where
  -- the first trial that passes, from 1, the steps of all trials made, and its bits
  passed : (trial steps : ℕ) (bits : List ℕ) → Verdict
  -- no trial passes: the trials made, and their steps
  failed : (made steps : ℕ) → Verdict

-- the trials in order, after `made` trials with `steps` steps have failed
unfoldable pub run : (List ℕ → Bool) → ℕ → ℕ → List Out → Verdict
run ok made steps [] = failed made steps
run ok made steps (o ∷ os) =
    let made' = made + 1 in
    let steps' = steps + o.work.steps in
    cond (ok o.bits) (passed made' steps' o.bits) (run ok made' steps' os)

-- how many trials were made, and their steps
abbrev pub tally : ℕ → ℕ → Tally
tally trials steps = record { trials = trials; steps = steps }

-- acceptance writes the packed payload; refusal 16 carries the trials made and writes nothing
abbrev pub answer_of : List ℕ → Code → List ℕ → Verdict → Result Tally DecodingError × List ℕ
answer_of mask c output (passed trial steps bits) = (Ok (tally trial steps), packed (take c.k (message_in mask c bits)))
answer_of mask c output (failed made steps) = (Err (NonePassed (tally made steps)), output)
