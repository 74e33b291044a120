-- What the theorems of this crate state of start values, and of operations under descriptions of kinds 1 and 4.
use Rattle.std.specs.Prelude.{◌≡◌, true, List, ◌++◌, ℕ, ◌*◌, ◌^◌, ◌<◌, ℤ, drop, replicate, Err, Ok, Result}
use Rattle.refusal.specs.Judge.{judge, refused_or}
use Rattle.bits.specs.Bit.{bits_of}
use Rattle.bits.specs.Claims.{Bits}
use Rattle.bits.specs.Packing.{packed, unpacked}
use Rattle.code.specs.declared.Code.{Code}
use Rattle.code.specs.Code.{code_length, divisor}
use Rattle.code.specs.Description.{mask_of, describe, on_description}
use Rattle.code.specs.Claims.{describe_kind1}
use Rattle.crc.specs.Check.{check_of, passes}
use Rattle.transform.specs.Transform.{transformed}
use Rattle.placing.specs.Place.{placed}
use Rattle.channel.specs.Channel.{channel_values}
use Rattle.encoder.specs.Encode.{encoding_refusals}
use Rattle.pass_resume.specs.Resume.{resumed_by}
use Rattle.flip_trial.specs.declared.Restart.{Restart}
use Rattle.flip_trial.specs.Trial.{message_in, trial_passes}
use Rattle.flip_run.specs.Trials.{run, answer_of, tally}
use Rattle.decoder.specs.Decoder.{Decoder, refusals_of, WellFormed, trials_of, decoded_as}
use Rattle.theorems_start.specs.Silence.{silence}
use Rattle.flip_run.specs.declared.DecodingError.TheVariants.{Refused}
use Rattle.refusal.specs.declared.Refusal.{Refusal}
use Rattle.pass_tree.specs.declared.Work.{Work}
use Rattle.flip_run.specs.declared.Tally.{Tally}
use Rattle.flip_run.specs.declared.DecodingError.{DecodingError}

-- Why a start is wanted: with start 0 silence is accepted on trial 1 as a payload of zeros, by every decoder at every restart. `silence-accepted` of
-- proofs/Silence.antt
abbrev pub SilenceAccepted : Type 0
SilenceAccepted =
    (p : Decoder) (restart : Restart) (d : List ℕ) (c : Code) (output : List ℕ) → c.start ≡ 0 → WellFormed p d c (silence c) output
    → decoded_as p restart d (silence c) output ≡ (Ok (tally 1 (c.n * code_length c)), packed (replicate c.k 0))

-- a code with another start
abbrev pub starting_at : ℕ → Code → Code
starting_at start c = record { n = c.n; r = c.r; polynomial = c.polynomial; start = start; k = c.k }

-- The trials of a run do not depend on the start: `trials-alike` of proofs/Silence.antt.
abbrev pub TrialsAlike : Type 0
TrialsAlike =
    (p : Decoder) (restart : Restart) (mask : List ℕ) (c : Code) (v : List ℤ) (start : ℕ)
    → trials_of p restart mask (starting_at start c) v ≡ trials_of p restart mask c v

-- Given bits pass with at most one start: `one_start` of proofs/Silence.antt. So of all starts of a code at most one for each trial accepts silence.
abbrev pub OneStart : Type 0
OneStart =
    (d : List ℕ) (c : Code) (bits : List ℕ) (s s' : ℕ) → describe d ≡ Ok c → Bits bits → s < 2 ^ c.r → s' < 2 ^ c.r
    → trial_passes (mask_of d) (starting_at s c) bits ≡ true → trial_passes (mask_of d) (starting_at s' c) bits ≡ true → s ≡ s'

-- Document 01's operations by themselves: a description of kind 1, its mask from byte 8 on, and the check with start 0, which is the one of
-- payload · z^r (`check_multiple_zero` and `check_only_zero` of crc/proofs/Message.antt). `encode_kind_1`, `resume_kind_1` and `decode_kind_1`
-- of proofs/TwoKinds.antt: these are the answers under every slice that does not say kind 4.

-- encode
abbrev pub encoded_kind1 : List ℕ → List ℕ → List ℕ → Result Unit Refusal × List ℕ
encoded_kind1 d payload output =
    on_description (describe_kind1 d) (λ x. (Err x, output))
    (λ c.
    let bits = unpacked payload c.k in
    refused_or (judge (encoding_refusals c payload output)) (λ x. (Err x, output))
    (Ok tt, packed (transformed c.n (placed (drop 8 d) (bits ++ check_of (divisor c) (bits_of c.r 0) bits) (code_length c)))))

-- resume
abbrev pub resumed_kind1 : List ℕ → List ℕ → List ℕ → List ℕ → Result Work Refusal × List ℕ
resumed_kind1 d channel prefix output =
    on_description (describe_kind1 d) (λ x. (Err x, output)) (λ c. resumed_by (drop 8 d) c channel prefix output)

-- decode
abbrev pub decoded_kind1 : Decoder → Restart → List ℕ → List ℕ → List ℕ → Result Tally DecodingError × List ℕ
decoded_kind1 p restart d channel output =
    on_description (describe_kind1 d) (λ x. (Err (Refused x), output))
    (λ c. refused_or (judge (refusals_of p c channel output)) (λ x. (Err (Refused x), output))
    (answer_of (drop 8 d) c output
    (run (λ bits. passes (divisor c) (bits_of c.r 0) c.k (message_in (drop 8 d) c bits)) 0 0 (trials_of p restart (drop 8 d) c (channel_values channel)))))
