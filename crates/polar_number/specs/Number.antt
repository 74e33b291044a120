-- Document 01, "Flip decoding, full and restarted": what comes back to host firmware in C, one unsigned 64-bit number. Bits 0-7 hold the
-- refusal, or 0; bits 8-31 the trial, refusal 16's T, or a refusal's first index; bits 32-63 the steps; what an answer lacks is 0.
use Rattle.std.specs.Prelude.{List, ℕ, ◌+◌, ◌*◌, ◌^◌, unwrap_or, Ok, Err, Result}
use Rattle.refusal.specs.declared.Refusal.{Refusal}
use Rattle.refusal.specs.Judge.{number_of, index_of}
use Rattle.flip_run.specs.declared.DecodingError.TheVariants.{NonePassed, Refused}
use Rattle.pass_tree.specs.declared.Work.{Work}
use Rattle.flip_run.specs.declared.Tally.{Tally}
use Rattle.flip_run.specs.declared.DecodingError.{DecodingError}

-- what an answer says
pub record Parts : Type 0 where
  -- the refusal, or 0
  pub refusal : ℕ
  -- the trial, refusal 16's T, the count of hearings, a refusal's first index, or 0
  pub value : ℕ
  -- the steps, or 0
  pub steps : ℕ

-- the parts by their fields
abbrev pub parts : ℕ → ℕ → ℕ → Parts
parts refusal value steps = record { refusal = refusal; value = value; steps = steps }

-- the parts side by side
abbrev pub packed_parts : Parts → ℕ
packed_parts p = p.refusal + p.value * 2 ^ 8 + p.steps * 2 ^ 32

-- the number of an answer, and the bytes that the output holds afterwards
abbrev pub numbered : {A : Type 0} → (A → Parts) → A × List ℕ → ℕ × List ℕ
numbered parts_of answer = (packed_parts (parts_of answer.0), answer.1)

-- the parts of a refusal: its number, and its first index or 0
abbrev pub refusal_parts : Refusal → Parts
refusal_parts x = parts (number_of x) (unwrap_or (index_of x) 0) 0

-- the parts of an encoder's answer
abbrev pub encoded_parts : Result Unit Refusal → Parts
encoded_parts (Ok tt) = parts 0 0 0
encoded_parts (Err x) = refusal_parts x

-- the parts of a resumed pass's answer
abbrev pub resumed_parts : Result Work Refusal → Parts
resumed_parts (Ok work) = parts 0 0 work.steps
resumed_parts (Err x) = refusal_parts x

-- the parts of an answer to a call on a lent state: it carries the count of hearings
abbrev pub kept_parts : Result ℕ Refusal → Parts
kept_parts (Ok count) = parts 0 count 0
kept_parts (Err x) = refusal_parts x

-- the parts of a decoder's answer: refusal 16 carries its T
abbrev pub decoded_parts : Result Tally DecodingError → Parts
decoded_parts (Ok passed) = parts 0 passed.trials passed.steps
decoded_parts (Err (NonePassed failed)) = parts 16 failed.trials failed.steps
decoded_parts (Err (Refused x)) = refusal_parts x
