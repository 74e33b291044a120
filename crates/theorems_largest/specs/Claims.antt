-- What the theorems of this crate state besides `OldAnswers`: which answers a larger n changes, and the operations with n up to `largest_n`.
use Rattle.std.specs.Prelude.{◌≡◌, List, ℕ, ◌<◌, ◌≤◌, get_or, Err}
use Rattle.code.specs.Description.{mask_of, describe_up_to, describe, on_description}
use Rattle.encoder.specs.Encode.{encoded_by, encoded}
use Rattle.pass_resume.specs.Resume.{resumed_by, resumed}
use Rattle.flip_trial.specs.declared.Restart.{Restart}
use Rattle.decoder.specs.Decoder.{Decoder, decoded_under, decoded_as}
use Rattle.refusal.specs.declared.Refusal.TheVariants.{CodeLength}
use Rattle.flip_run.specs.declared.DecodingError.TheVariants.{Refused}

-- Bytes whose answer a larger n changes: they are refused as 4 with n up to `small`, and not with n up to `large`, and their n lies between.
-- `answers` of proofs/Longer.antt: all bytes have one description with both, or are these.
pub record NewAnswer (small large : ℕ) (d : List ℕ) : Type 0 where
  pub refused : describe_up_to small d ≡ Err CodeLength
  pub above : small < get_or d 4 0
  pub most : get_or d 4 0 ≤ large
  pub other : describe_up_to large d ≡ Err CodeLength → ⊥

-- Every operation answers d as with n up to `largest`. `as_accepted` of proofs/Longer.antt: this holds if d is accepted with n up to `largest`;
-- `as_10` is the case of document 01's largest n.
pub record AnswersAs (largest : ℕ) (d : List ℕ) : Type 0 where
  -- what the bytes describe
  pub description : describe d ≡ describe_up_to largest d
  -- encode
  pub encode :
      (payload output : List ℕ)
      → encoded d payload output ≡ on_description (describe_up_to largest d) (λ x. (Err x, output)) (λ c. encoded_by (mask_of d) c payload output)
  -- resume
  pub resume :
      (channel prefix output : List ℕ)
      → resumed d channel prefix output ≡ on_description (describe_up_to largest d) (λ x. (Err x, output)) (λ c. resumed_by (mask_of d) c channel prefix output)
  -- every decoder at every restart
  pub decode :
      (p : Decoder) (restart : Restart) (channel output : List ℕ)
      → decoded_as p restart d channel output
      ≡ on_description (describe_up_to largest d) (λ x. (Err (Refused x), output)) (λ c. decoded_under p restart (mask_of d) c channel output)
