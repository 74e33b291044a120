-- Document 02, request 2.1: "With a nonzero start, the zero vector must fail trial 1." `trial_1_fails`, `silence_fails` and `silence-later` of
-- proofs/Silence.antt prove it of every code and every decoder at every restart.
use Rattle.std.specs.Prelude.{◌≡◌, false, List, ℕ, ◌*◌, ◌<◌, ◌≤◌, length, replicate, Err, Ok}
use Rattle.refusal.specs.Judge.{judge}
use Rattle.bits.specs.Packing.{bytes_for}
use Rattle.code.specs.declared.Code.{Code}
use Rattle.code.specs.Code.{code_length}
use Rattle.code.specs.Description.{mask_of, describe}
use Rattle.channel.specs.Channel.{channel_values}
use Rattle.flip_trial.specs.declared.Restart.{Restart}
use Rattle.flip_trial.specs.Trial.{first_trial, trial_passes}
use Rattle.decoder.specs.Decoder.{Decoder, own_refusals, decoded_as}
use Rattle.decoder_demands.specs.Agreement.{limit_of}
use Rattle.flip_run.specs.Trials.{tally}
use Rattle.flip_run.specs.declared.DecodingError.TheVariants.{NonePassed}

-- N zero values
abbrev pub silence : Code → List ℕ
silence c = replicate (code_length c) 0

-- any code with a nonzero start: the bits of trial 1, with which every run begins, do not pass
abbrev pub Trial1Fails : Type 0
Trial1Fails =
    (d : List ℕ) (c : Code) → describe d ≡ Ok c → 0 < c.start
    → trial_passes (mask_of d) c (first_trial (mask_of d) c (channel_values (silence c))).bits ≡ false

-- so every decoder with T = 1, if 26 and 14 do not apply, answers refusal 16 with one trial and n · N steps, and any output of the right size stays as it
-- was
abbrev pub SilenceFails : Type 0
SilenceFails =
    (p : Decoder) (restart : Restart) (d : List ℕ) (c : Code) (output : List ℕ) → describe d ≡ Ok c → 0 < c.start
    → limit_of p ≡ 1 → judge (own_refusals p c) ≡ Ok tt → length output ≡ bytes_for c.k
    → decoded_as p restart d (silence c) output ≡ (Err (NonePassed (tally 1 (c.n * code_length c))), output)

-- a decoder that accepts silence, with any T, does so on a later trial
abbrev pub SilenceLater : Type 0
SilenceLater =
    (p : Decoder) (restart : Restart) (d : List ℕ) (c : Code) (output : List ℕ) (trial steps : ℕ) (payload : List ℕ)
    → describe d ≡ Ok c → 0 < c.start → decoded_as p restart d (silence c) output ≡ (Ok (tally trial steps), payload) → 2 ≤ trial
