-- Document 01, "Flip decoding, full and restarted", and the owner's reason for the demands: what is accepted passed its check, and 16 is answered only to
-- "a frame that still fails its check after every permitted trial". `only_checked` and `after-all` of proofs/Checked.antt prove it of every decoder at
-- every restart.
use Rattle.std.specs.Prelude.{◌≡◌, true, false, List, [], map, ℕ, ◌-◌, ◌/◌, ◌≤◌, ℤ, length, get_or, Err, Ok}
use Rattle.bits.specs.Packing.{packed}
use Rattle.code.specs.declared.Code.{Code}
use Rattle.code.specs.Code.{code_length}
use Rattle.code.specs.Description.{mask_of, describe}
use Rattle.transform.specs.Transform.{transformed}
use Rattle.channel.specs.Channel.{channel_values}
use Rattle.encoder.specs.Encode.{encoded}
use Rattle.flip_trial.specs.declared.Restart.{Restart}
use Rattle.flip_trial.specs.Trial.{trial_passes}
use Rattle.decoder.specs.Decoder.{Decoder, trials_of, decoded_as}
use Rattle.flip_run.specs.Trials.{tally}
use Rattle.flip_run.specs.declared.DecodingError.TheVariants.{NonePassed}

-- the bits of trial t, from 1
abbrev pub trial_bits : Decoder → Restart → List ℕ → Code → List ℤ → ℕ → List ℕ
trial_bits p restart mask c v t = get_or (map (λ o. o.bits) (trials_of p restart mask c v)) (t - 1) []

-- The accepted trial passes its check, and the transform of its bits is the codeword of what is written: encode writes it for that payload. That the trial
-- is one of those made is `SameRun.answers` and `.each`.
abbrev pub OnlyChecked : Type 0
OnlyChecked =
    (p : Decoder) (restart : Restart) (d : List ℕ) (c : Code) (channel output : List ℕ) (trial steps : ℕ) (payload : List ℕ)
    → describe d ≡ Ok c → decoded_as p restart d channel output ≡ (Ok (tally trial steps), payload)
    → let bits = trial_bits p restart (mask_of d) c (channel_values channel) trial in
    (trial_passes (mask_of d) c bits ≡ true)
    × ((codeword : List ℕ) → length codeword ≡ code_length c / 8 → encoded d payload codeword ≡ (Ok tt, packed (transformed c.n bits)))

-- refusal 16 is answered only if every permitted trial was made and failed
abbrev pub AfterAll : Type 0
AfterAll =
    (p : Decoder) (restart : Restart) (d : List ℕ) (c : Code) (channel output : List ℕ) (made steps : ℕ) (bytes : List ℕ)
    → describe d ≡ Ok c → decoded_as p restart d channel output ≡ (Err (NonePassed (tally made steps)), bytes)
    → (made ≡ length (trials_of p restart (mask_of d) c (channel_values channel)))
    × ((t : ℕ) → 1 ≤ t → t ≤ made → trial_passes (mask_of d) c (trial_bits p restart (mask_of d) c (channel_values channel) t) ≡ false)
