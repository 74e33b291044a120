-- Document 02, request 2.4: "For one input, all three decoders agree in payload and trial or refusal, and steps obey restarted ≤ half restart ≤ full."
-- `agreement` of proofs/Agreement.antt proves it of every decoder, with demand 3's exact steps.
use Rattle.std.specs.Prelude.{◌≡◌, ◌⊎◌, ℕ, ◌+◌, ◌-◌, ◌*◌, ◌≤◌, ℤ, length, take, Err, Ok, Result}
use mathlib.Core.List.{List, [], ◌∷◌, map, Memᴰ}
use Rattle.refusal.specs.declared.Refusal.{Refusal}
use Rattle.code.specs.declared.Code.{Code}
use Rattle.code.specs.Code.{code_length}
use Rattle.code.specs.Description.{mask_of, describe}
use Rattle.channel.specs.Channel.{channel_values}
use Rattle.pass_tree.specs.Skipped.{skipped}
use Rattle.flip_trial.specs.declared.Restart.{Restart}
use Rattle.flip_trial.specs.declared.Restart.TheVariants.{Root, Half, AfterFlip}
use Rattle.flip_trial.specs.Trial.{lowest, restart_at}
use Rattle.flip_trial.specs.Flips.{Flips}
use Rattle.decoder.specs.Tried.{flip_sets}
use Rattle.decoder.specs.Decoder.{Decoder, single, sets, flips_of, decoded_as}
use Rattle.flip_run.specs.Trials.{tally}
use Rattle.flip_run.specs.declared.DecodingError.TheVariants.{NonePassed, Refused}
use Rattle.flip_run.specs.declared.Tally.{Tally}
use Rattle.flip_run.specs.declared.DecodingError.{DecodingError}

-- the sum, over some q, of q − (q mod 2^j) for every j from 0 to n − 1
abbrev pub skipped_over : ℕ → List ℕ → ℕ
skipped_over n [] = 0
skipped_over n (q ∷ qs) = skipped n q + skipped_over n qs

-- the trial limit
abbrev pub limit_of : Decoder → ℕ
limit_of (single limit) = limit
limit_of (sets w limit) = limit

-- request 2.2, "Where no untried set is left": every set of at most w indices is among those of the trials. A decoder by single flips never ends so.
abbrev pub AllTried : Decoder → List ℕ → Code → List ℤ → Type 0
AllTried (single limit) mask c v = ⊥
AllTried (sets w limit) mask c v = (is : List ℕ) → Flips mask (code_length c) is → length is ≤ w → Memᴰ is (flip_sets w limit mask c v)

-- `answer` is what p answers at each restart; each call has its own output of `size` bytes, whatever they are
abbrev pub Answers : Decoder → List ℕ → List ℕ → ℕ → (Restart → List ℕ → Result Tally DecodingError × List ℕ) → Type 0
Answers p d channel size answer = (restart : Restart) (output : List ℕ) → length output ≡ size → decoded_as p restart d channel output ≡ answer restart output

-- the lowest flipped index of each trial made after the first
abbrev pub lowest_of_each : Decoder → List ℕ → Code → List ℕ → ℕ → List ℕ
lowest_of_each p d c channel made = map lowest (take (made - 1) (flips_of p (mask_of d) c (channel_values channel)))

-- the runs of p at every restart agree but for the steps
pub record SameRun (p : Decoder) (d : List ℕ) (c : Code) (channel : List ℕ) (size : ℕ) : Type 0 where
  -- the trials that each makes
  pub made : ℕ
  -- the steps that each restart reports
  pub steps : Restart → ℕ
  -- no more trials than the limit
  pub most : made ≤ limit_of p
  -- an index for each trial made after the first
  pub each : length (lowest_of_each p d c channel made) + 1 ≡ made
  -- One trial number with one payload. Or refusal 16 after trial 1 and a trial of each set of `flips_of`, with each output as it was: these trials are as
  -- many as the limit allows (`made ≡ limit_of p`), or no untried set is left (`AllTried`).
  pub answers :
      ((payload : List ℕ) × Answers p d channel size (λ restart output. (Ok (tally made (steps restart)), payload)))
      ⊎ ((made ≡ length (flips_of p (mask_of d) c (channel_values channel)) + 1)
      × ((made ≡ limit_of p) ⊎ AllTried p (mask_of d) c (channel_values channel))
      × Answers p d channel size (λ restart output. (Err (NonePassed (tally made (steps restart))), output)))
  -- full decoding reports trials made × n × N steps
  pub full_steps : steps Root ≡ made * c.n * code_length c
  -- full decoding's steps exceed the report at each restart by the sum, over every trial made after the first, of q − (q mod 2^j) for every j from 0 to
  -- n − 1, q being the index at which the trial resumes
  pub exceeds : (restart : Restart)
      → steps Root ≡ steps restart + skipped_over c.n (map (restart_at restart (mask_of d) (code_length c)) (lowest_of_each p d c channel made))
  -- restarted decoding reports no more steps than half restart
  pub restarted_least : steps AfterFlip ≤ steps Half
  -- half restart reports no more steps than full decoding
  pub full_most : steps Half ≤ steps Root

-- one input, whatever it is, and outputs of any size: one refusal before 16, and each output as it was; or one run of trials
abbrev pub Agree : Decoder → List ℕ → List ℕ → ℕ → Type 0
Agree p d channel size =
    ((r : Refusal) × Answers p d channel size (λ restart output. (Err (Refused r), output)))
    ⊎ ((c : Code) × (describe d ≡ Ok c) × SameRun p d c channel size)

-- every decoder, and any input at all
abbrev pub Agreement : Type 0
Agreement = (p : Decoder) (d channel : List ℕ) (size : ℕ) → Agree p d channel size
