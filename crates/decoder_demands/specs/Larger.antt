-- Document 02, request 2.4: "Also show that, with single flips, a frame accepted under one T has the same payload, trial and steps under any larger T that
-- 14 allows." `stays_accepted` of proofs/Larger.antt proves it of every decoder at every restart.
use Rattle.std.specs.Prelude.{◌≡◌, List, ℕ, ◌≤◌, length, Ok}
use Rattle.refusal.specs.Judge.{judge}
use Rattle.code.specs.declared.Code.{Code}
use Rattle.code.specs.Description.{describe}
use Rattle.flip_trial.specs.declared.Restart.{Restart}
use Rattle.decoder.specs.Decoder.{Decoder, single, sets, own_refusals, decoded_as}
use Rattle.flip_run.specs.Trials.{tally}

-- the second decoder goes on after the first: its limit is as large or larger
pub data GoesOn : Decoder → Decoder → Type 0 where
  -- by single flips
  single_more : {limit limit' : ℕ} → limit ≤ limit' → GoesOn (single limit) (single limit')
  -- by sets, with one w
  sets_more : {w limit limit' : ℕ} → limit ≤ limit' → GoesOn (sets w limit) (sets w limit')

-- each call has its own output, and both are of one size
abbrev pub StaysAccepted : Type 0
StaysAccepted =
    (p p' : Decoder) (restart : Restart) (d : List ℕ) (c : Code) (channel output output' : List ℕ) (trial steps : ℕ) (payload : List ℕ)
    → describe d ≡ Ok c → GoesOn p p' → judge (own_refusals p' c) ≡ Ok tt → length output' ≡ length output
    → decoded_as p restart d channel output ≡ (Ok (tally trial steps), payload)
    → decoded_as p' restart d channel output' ≡ (Ok (tally trial steps), payload)
