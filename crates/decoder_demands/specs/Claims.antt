-- What theorems state of the decoders: how a run of trials ends, what restarts share, and what half restart saves.
use Rattle.std.specs.Prelude.{◌≡◌, Bool, true, false, cond, ◌⊎◌, List, [], ◌∷◌, map, ℕ, zero, suc, ◌+◌, ◌-◌, ◌*◌, ◌/◌, ◌<◌, ◌≤◌, leb, length, get_or, take, Err, Ok, Result}
use Rattle.code.specs.declared.Code.{Code}
use Rattle.code.specs.Code.{code_length}
use Rattle.pass_tree.specs.Node.{Out}
use Rattle.pass_tree.specs.Skipped.{skipped}
use Rattle.flip_trial.specs.declared.Restart.{Restart}
use Rattle.flip_trial.specs.declared.Restart.TheVariants.{Root, Half, AfterFlip}
use Rattle.flip_trial.specs.Trial.{lowest, restart_at}
use Rattle.flip_run.specs.Trials.{Verdict, passed, failed, tally}
use Rattle.decoder.specs.Decoder.{Decoder}
use Rattle.decoder_demands.specs.Agreement.{lowest_of_each, SameRun}
use Rattle.flip_run.specs.declared.DecodingError.TheVariants.{NonePassed}
use Rattle.flip_run.specs.declared.Tally.{Tally}
use Rattle.flip_run.specs.declared.DecodingError.{DecodingError}

-- the bits of each trial
abbrev pub bits_of_each : List Out → List (List ℕ)
bits_of_each os = map (λ o. o.bits) os

-- the bits of trial t, from 1
abbrev pub bits_of_trial : List Out → ℕ → List ℕ
bits_of_trial os zero = []
bits_of_trial os (suc t) = get_or (bits_of_each os) t []

-- the steps of all trials
abbrev pub steps_of : List Out → ℕ
steps_of [] = 0
steps_of (o ∷ os) = o.work.steps + steps_of os

-- `trial` is the first that passes
pub record PassedAt (ok : List ℕ → Bool) (os : List Out) (trial steps : ℕ) (bits : List ℕ) : Type 0 where
  pub least : 1 ≤ trial
  pub most : trial ≤ length os
  -- these are its bits
  pub bits_are : bits ≡ bits_of_trial os trial
  pub passes : ok bits ≡ true
  -- every trial before it failed
  pub earlier : (t : ℕ) → 1 ≤ t → t < trial → ok (bits_of_trial os t) ≡ false
  -- the steps are those of the trials made
  pub steps_are : steps ≡ steps_of (take trial os)

-- every trial is made and failed
pub record AllFailed (ok : List ℕ → Bool) (os : List Out) (made steps : ℕ) : Type 0 where
  pub all : made ≡ length os
  pub each : (t : ℕ) → 1 ≤ t → t ≤ length os → ok (bits_of_trial os t) ≡ false
  pub steps_are : steps ≡ steps_of os

-- what a verdict on the trials says of them: `run_ends` of proofs/Run.antt proves it of `run`
abbrev pub Ends : (List ℕ → Bool) → List Out → Verdict → Type 0
Ends ok os (passed trial steps bits) = PassedAt ok os trial steps bits
Ends ok os (failed made steps) = AllFailed ok os made steps

-- two verdicts that agree but for the steps: `run-same` of proofs/Run.antt
abbrev pub SameButSteps : Verdict → Verdict → Type 0
SameButSteps (passed trial steps bits) (passed trial' steps' bits') = (trial ≡ trial') × (bits ≡ bits')
SameButSteps (failed made steps) (failed made' steps') = made ≡ made'
SameButSteps (passed trial steps bits) (failed made steps') = ⊥
SameButSteps (failed made steps) (passed trial steps' bits) = ⊥

-- the steps that a restart saves, over flipped indices
abbrev pub skipped_by : Restart → List ℕ → Code → List ℕ → ℕ
skipped_by restart mask c [] = 0
skipped_by restart mask c (i ∷ is) = skipped c.n (restart_at restart mask (code_length c) i) + skipped_by restart mask c is

-- The answers of the decoders of every restart, by any sets. `answer` is what the decoder of each restart answers after the trials of these sets,
-- with any output that fits. `every-restart` of proofs/Compare.antt proves it.
pub record EveryRestart (mask : List ℕ) (c : Code) (sets : List (List ℕ)) (Fitting : List ℕ → Type 0) (answer : Restart → List ℕ → Result Tally DecodingError × List ℕ) : Type 0 where
  -- the trials that each makes
  pub made : ℕ
  -- the steps that each restart reports
  pub steps : Restart → ℕ
  pub most : made ≤ length sets + 1
  -- a set for each trial made after the first
  pub each : length (take (made - 1) sets) + 1 ≡ made
  -- one trial number with one payload; or refusal 16 after the trials of all sets, and each output as it was
  pub answers :
      ((payload : List ℕ) × ((r : Restart) (o : List ℕ) → Fitting o → answer r o ≡ (Ok (tally made (steps r)), payload)))
      ⊎ ((made ≡ length sets + 1) × ((r : Restart) (o : List ℕ) → Fitting o → answer r o ≡ (Err (NonePassed (tally made (steps r))), o)))
  -- each reports trials made × n × N steps, without exactly those that its restarts skip
  pub counted : (r : Restart) → steps r + skipped_by r mask c (map lowest (take (made - 1) sets)) ≡ made * c.n * code_length c

-- how many of some indices lie in the second half of N
abbrev pub in_second_half : ℕ → List ℕ → ℕ
in_second_half N [] = 0
in_second_half N (i ∷ is) = cond (leb (N / 2) i) 1 0 + in_second_half N is

-- half restart saves n × N/2 steps for each trial made after the first whose lowest index lies in the second half: `half_steps` of
-- proofs/HalfSteps.antt
abbrev pub HalfSteps : Type 0
HalfSteps =
    (p : Decoder) (d : List ℕ) (c : Code) (channel : List ℕ) (size : ℕ) (x : SameRun p d c channel size)
    → x.steps Root ≡ x.steps Half + in_second_half (code_length c) (lowest_of_each p d c channel x.made) * (c.n * (code_length c / 2))

-- restarted decoding takes fewer steps than half restart, by at least one in each later trial: `restarted_fewer` of proofs/HalfSteps.antt
abbrev pub RestartedFewer : Type 0
RestartedFewer =
    (p : Decoder) (d : List ℕ) (c : Code) (channel : List ℕ) (size : ℕ) (x : SameRun p d c channel size) → 1 ≤ c.n
    → x.steps AfterFlip + (x.made - 1) ≤ x.steps Half
