-- Document 01, "Flip decoding, full and restarted": demand 3, in the owner's words, about the definitions that the promises of both decoders cite.
-- `demand_3` of proofs/Demand3.antt proves it from `Agreement`.
use Rattle.std.specs.Prelude.{◌≡◌, ◌⊎◌, ℕ, ◌+◌, ◌-◌, ◌*◌, ◌≤◌, length, take, Err, Ok}
use mathlib.Core.List.{List, Forall₂}
use Rattle.code.specs.declared.Code.{Code}
use Rattle.code.specs.Code.{code_length}
use Rattle.code.specs.Description.{mask_of}
use Rattle.channel.specs.Channel.{channel_values}
use Rattle.flip_trial.specs.FirstAfter.{FirstAfter}
use Rattle.flip_run.specs.Trials.{flip_order, tally}
use Rattle.decoder.specs.Decoder.{single, WellFormed, decoded_full, decoded_restarted}
use Rattle.decoder_demands.specs.Agreement.{skipped_over}
use Rattle.flip_run.specs.declared.DecodingError.TheVariants.{NonePassed}

-- the answers of both decoders under d, each with its own output
pub record BothDecode (d : List ℕ) (c : Code) (channel : List ℕ) (limit : ℕ) (output output' : List ℕ) : Type 0 where
  -- the trials that each makes
  pub made : ℕ
  -- the steps that full decoding reports
  pub full : ℕ
  -- the steps that restarted decoding reports
  pub restarted : ℕ
  -- no more trials than T
  pub most : made ≤ limit
  -- one trial number, and one payload in both buffers; or refusal 16 with one T, and each buffer as it was
  pub answers :
      ((payload : List ℕ)
      × (decoded_full d channel limit output ≡ (Ok (tally made full), payload))
      × (decoded_restarted d channel limit output' ≡ (Ok (tally made restarted), payload)))
      ⊎ ((made ≡ limit)
      × (decoded_full d channel limit output ≡ (Err (NonePassed (tally made full)), output))
      × (decoded_restarted d channel limit output' ≡ (Err (NonePassed (tally made restarted)), output')))
  -- full decoding reports exactly trials made × n × N steps
  pub full_steps : full ≡ made * c.n * code_length c
  -- the q of each trial made after the first
  pub qs : List ℕ
  -- one for each
  pub each : length qs + 1 ≡ made
  -- full decoding's steps exceed the restarted report by exactly the sum, over those trials, of q − (q mod 2^j) for every j from 0 to n − 1
  pub exceeds : full ≡ restarted + skipped_over c.n qs
  -- q is the first information index after that trial's flipped one, or N if none
  pub q_is : Forall₂ (FirstAfter (mask_of d) (code_length c)) (take (made - 1) (flip_order (mask_of d) c (channel_values channel))) qs

-- any code, any trial limit and any channel values, all well-formed, each decoder with an output buffer of the right size
abbrev pub Demand3 : Type 0
Demand3 =
    (d : List ℕ) (c : Code) (channel : List ℕ) (limit : ℕ) (output output' : List ℕ)
    → WellFormed (single limit) d c channel output → WellFormed (single limit) d c channel output'
    → BothDecode d c channel limit output output'
