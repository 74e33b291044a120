-- Document 01, "Flip decoding, full and restarted", and document 02, requests 2.2 and 2.4: every flip decoder, with the refusals of a description,
-- 12, 13, 26, 14, 15 and 16 in order. A decoder says what its trials flip. The restart says at which index a trial resumes.
use Rattle.std.specs.Prelude.{◌≡◌, Bool, cond, List, [], ◌∷◌, ◌++◌, map, ℕ, ◌+◌, ◌-◌, eqb, ℤ, length, take, Err, Ok, Result}
use Rattle.refusal.specs.declared.Refusal.{Refusal}
use Rattle.refusal.specs.Judge.{differs, outside, judge, refused_or}
use Rattle.bits.specs.Packing.{bytes_for}
use Rattle.code.specs.declared.Code.{Code}
use Rattle.code.specs.Code.{information_count}
use Rattle.code.specs.Description.{mask_of, describe, on_description}
use Rattle.channel.specs.Channel.{channel_values, channel_refusals}
use Rattle.pass_tree.specs.Node.{Out}
use Rattle.flip_trial.specs.declared.Restart.{Restart}
use Rattle.flip_trial.specs.declared.Restart.TheVariants.{Root, Half, AfterFlip}
use Rattle.flip_trial.specs.Trial.{first_trial, later_trial, trial_passes}
use Rattle.flip_run.specs.Trials.{flip_order, run, answer_of}
use Rattle.decoder.specs.Tried.{flip_sets}
use Rattle.refusal.specs.declared.Refusal.TheVariants.{FlipCount, OutputLength, TrialLimit}
use Rattle.flip_run.specs.declared.DecodingError.TheVariants.{Refused}
use Rattle.flip_run.specs.declared.Tally.{Tally}
use Rattle.flip_run.specs.declared.DecodingError.{DecodingError}

-- what is flipped in each trial after the first, with the trial limit
pub data Decoder : Type 0 where
  -- one index
  single : (limit : ℕ) → Decoder
  -- a set of at most w indices
  sets : (w limit : ℕ) → Decoder

-- the largest trial limit of a decoder by sets: K + 1 if w is 1, otherwise 512
abbrev pub most_limit : ℕ → Code → ℕ
most_limit w c = cond (eqb w 1) (information_count c + 1) 512

-- a decoder's own refusals: 26 w is outside 1..3; 14 the trial limit is outside its range
abbrev pub own_refusals : Decoder → Code → List (Bool × Refusal)
own_refusals (single limit) c = (outside limit 1 (information_count c + 1), TrialLimit) ∷ []
own_refusals (sets w limit) c = (outside w 1 3, FlipCount) ∷ (outside limit 1 (most_limit w c), TrialLimit) ∷ []

-- all refusals before 16, each test beside its refusal: 12 and 13, its own, and 15 if the output is not of the packed payload's size
abbrev pub refusals_of : Decoder → Code → List ℕ → List ℕ → List (Bool × Refusal)
refusals_of p c channel output = channel_refusals c channel ++ (own_refusals p c ++ ((differs (length output) (bytes_for c.k), OutputLength) ∷ []))

-- a call is well-formed under the code c of d if no refusal before 16 applies. Exactly then its answer is an acceptance or 16: `well_formed_is_run` of
-- proofs/Decoder.antt.
pub record WellFormed (p : Decoder) (d : List ℕ) (c : Code) (channel output : List ℕ) : Type 0 where
  -- d is accepted
  pub described : describe d ≡ Ok c
  -- 12, 13, 26, 14 and 15 do not apply
  pub fine : judge (refusals_of p c channel output) ≡ Ok tt

-- the sets that the trials after the first flip, up to the limit
abbrev pub flips_of : Decoder → List ℕ → Code → List ℤ → List (List ℕ)
flips_of (single limit) mask c v = take (limit - 1) (map (λ i. i ∷ []) (flip_order mask c v))
flips_of (sets w limit) mask c v = flip_sets w limit mask c v

-- the trials, if none passes
abbrev pub trials_of : Decoder → Restart → List ℕ → Code → List ℤ → List Out
trials_of p restart mask c v = first_trial mask c v ∷ map (later_trial restart mask c v) (flips_of p mask c v)

-- the answer and the bytes that the output holds afterwards, for a code: a refusal writes nothing
unfoldable pub decoded_under : Decoder → Restart → List ℕ → Code → List ℕ → List ℕ → Result Tally DecodingError × List ℕ
decoded_under p restart mask c channel output =
    refused_or (judge (refusals_of p c channel output)) (λ x. (Err (Refused x), output))
    (answer_of mask c output (run (trial_passes mask c) 0 0 (trials_of p restart mask c (channel_values channel))))

-- the answer and the output afterwards for a description: its refusals come first
unfoldable pub decoded_as : Decoder → Restart → List ℕ → List ℕ → List ℕ → Result Tally DecodingError × List ℕ
decoded_as p restart d channel output = on_description (describe d) (λ x. (Err (Refused x), output)) (λ c. decoded_under p restart (mask_of d) c channel output)

-- full decoding repeats each trial from the root
abbrev pub decoded_full : List ℕ → List ℕ → ℕ → List ℕ → Result Tally DecodingError × List ℕ
decoded_full d channel limit output = decoded_as (single limit) Root d channel output

-- half restart resumes at N/2 if the lowest flipped index is N/2 or above, otherwise at 0
abbrev pub decoded_half : List ℕ → List ℕ → ℕ → List ℕ → Result Tally DecodingError × List ℕ
decoded_half d channel limit output = decoded_as (single limit) Half d channel output

-- restarted decoding resumes at the first information index after the lowest flipped one, or at N if there is none
abbrev pub decoded_restarted : List ℕ → List ℕ → ℕ → List ℕ → Result Tally DecodingError × List ℕ
decoded_restarted d channel limit output = decoded_as (single limit) AfterFlip d channel output

-- full decoding by sets
abbrev pub sets_full : List ℕ → List ℕ → ℕ → ℕ → List ℕ → Result Tally DecodingError × List ℕ
sets_full d channel w limit output = decoded_as (sets w limit) Root d channel output

-- half restart by sets
abbrev pub sets_half : List ℕ → List ℕ → ℕ → ℕ → List ℕ → Result Tally DecodingError × List ℕ
sets_half d channel w limit output = decoded_as (sets w limit) Half d channel output

-- restarted decoding by sets
abbrev pub sets_restarted : List ℕ → List ℕ → ℕ → ℕ → List ℕ → Result Tally DecodingError × List ℕ
sets_restarted d channel w limit output = decoded_as (sets w limit) AfterFlip d channel output
