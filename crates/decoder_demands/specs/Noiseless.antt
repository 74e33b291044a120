-- Document 01, "Flip decoding, full and restarted": the noiseless clause of demand 2. "Any such codeword received with right signs and no zero
-- strength, in a well-formed call, decodes to its payload on trial 1." `noiseless` and `noiseless_decoding` of proofs/Noiseless.antt prove it.
use Rattle.std.specs.Prelude.{◌≡◌, List, ℕ, ◌*◌, ◌<◌, nat_abs, get_or, Ok}
use Rattle.bits.specs.Packing.{unpacked}
use Rattle.code.specs.declared.Code.{Code}
use Rattle.code.specs.Code.{code_length}
use Rattle.values.specs.Values.{hard}
use Rattle.channel.specs.Channel.{channel_value}
use Rattle.encoder.specs.Encode.{encoded}
use Rattle.flip_trial.specs.declared.Restart.{Restart}
use Rattle.decoder.specs.Decoder.{Decoder, single, WellFormed, decoded_as, decoded_full, decoded_restarted}
use Rattle.flip_run.specs.Trials.{tally}

-- N channel values, of the codeword that encode writes for a payload under d
pub record Received (N : ℕ) (d payload channel : List ℕ) : Type 0 where
  -- the payload's bytes
  pub bytes : (m : ℕ) → get_or payload m 0 < 256
  -- what encode's buffer holds before
  pub buffer : List ℕ
  -- what it holds afterwards
  pub codeword : List ℕ
  -- encode accepts the payload
  pub encodes : encoded d payload buffer ≡ (Ok tt, codeword)
  -- the signs are right
  pub sign : (j : ℕ) → j < N → hard (channel_value (get_or channel j 0)) ≡ get_or (unpacked codeword N) j 0
  -- no strength is zero
  pub strength : (j : ℕ) → j < N → 0 < nat_abs (channel_value (get_or channel j 0))

-- every decoder at every restart: any code, any payload that encode accepts, any channel values of its codeword, in any well-formed call
abbrev pub Noiseless : Type 0
Noiseless =
    (p : Decoder) (restart : Restart) (d : List ℕ) (c : Code) (payload channel output : List ℕ)
    → Received (code_length c) d payload channel → WellFormed p d c channel output
    → decoded_as p restart d channel output ≡ (Ok (tally 1 (c.n * code_length c)), payload)

-- full and restarted decoding with any trial limit
abbrev pub NoiselessDecoding : Type 0
NoiselessDecoding =
    (d : List ℕ) (c : Code) (payload channel : List ℕ) (limit : ℕ) (output : List ℕ)
    → Received (code_length c) d payload channel → WellFormed (single limit) d c channel output
    → (decoded_full d channel limit output ≡ (Ok (tally 1 (c.n * code_length c)), payload))
    × (decoded_restarted d channel limit output ≡ (Ok (tally 1 (c.n * code_length c)), payload))
