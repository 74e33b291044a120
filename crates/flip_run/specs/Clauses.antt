-- What only contracts below the public operations cite. Nothing here need be believed.
use Rattle.std.specs.Prelude.{◌≡◌, List, [], ◌∷◌, map, ℕ, ◌+◌, ◌-◌, ◌*◌, ◌≤◌, ℤ, length, take, Result, Ok, Err}
use Rattle.bits.specs.Claims.{Bits}
use Rattle.bits.specs.Packing.{packed, bytes_for}
use Rattle.code.specs.declared.Code.{Code}
use Rattle.code.specs.Code.{code_length, information_count}
use Rattle.code.specs.Claims.{Coded}
use Rattle.channel.specs.Channel.{channel_values, first_outside}
use Rattle.pass_tree.specs.Node.{Out}
use Rattle.pass_ends.specs.Clauses.{Arrays, Whole}
use Rattle.flip_order.specs.Clauses.{Keyed}
use Rattle.flip_trial.specs.Trial.{first_trial, later_trial, trial_passes, message_in}
use Rattle.flip_trial.specs.Clauses.{PlainRules, FirstBits, FirstLeaves}
use Rattle.flip_run.specs.declared.Terms.{Terms}
use Rattle.flip_run.specs.declared.Tally.{Tally}
use Rattle.flip_run.specs.declared.DecodingError.TheVariants.{NonePassed}
use Rattle.flip_run.specs.Trials.{flip_order, Verdict, passed, failed, run, answer_of, tally}
use Rattle.flip_run.specs.declared.DecodingError.{DecodingError}

-- what a decoder answers: the trials up to the one that passed
abbrev pub Decoded : Type 0
Decoded = Result Tally DecodingError

-- a code, and channel values for it, each within its range
pub record FramePre (mask : List ℕ) (c : Code) (channel : List ℕ) : Type 0 where
  pub coded : Coded mask c
  pub channel_size : length channel ≡ code_length c
  pub in_range : first_outside channel ≡ length channel

-- a trial limit that is allowed
pub record LimitPre (limit : ℕ) (c : Code) : Type 0 where
  pub least : 1 ≤ limit
  pub most : limit ≤ information_count c + 1

-- what holds past all refusals before 16
pub record RunPre (terms : Terms) (mask : List ℕ) (c : Code) (channel output : List ℕ) : Type 0 where
  pub frame : FramePre mask c channel
  pub limits : LimitPre terms.limit c
  pub output_size : length output ≡ bytes_for c.k

-- the trials on these terms; each after the first flips one index
abbrev pub trials : Terms → List ℕ → Code → List ℤ → List Out
trials terms mask c v =
    first_trial mask c v ∷ map (λ i. later_trial terms.restart mask c v (i ∷ [])) (take (terms.limit - 1) (flip_order mask c v))

-- once trial 1 failed, in `start` steps: its bits, the rules of a plain pass, and how a run goes on
pub record LaterTrialsPre (room : ℕ) (mask : List ℕ) (c : Code) (channel : List ℕ) (start : ℕ) (first rules : List ℕ) : Type 0 where
  pub start_most : start ≤ c.n * code_length c
  pub first_bits : FirstBits room mask c channel first
  pub plain : PlainRules room mask c rules
  pub goes_on : (later : List Out) → run (trial_passes mask c) 0 0 (first_trial mask c (channel_values channel) ∷ later) ≡ run (trial_passes mask c) 1 start later

-- trial 1 failed, in `start` steps: what later trials need of it, in the arrays where it left its bits and leaf values
pub record FirstFailed (room : ℕ) (mask : List ℕ) (c : Code) (channel : List ℕ) (start : ℕ) (rules : List ℕ) (a : Arrays) : Type 0 where
  pub later : LaterTrialsPre room mask c channel start a.bits rules
  pub leaves : FirstLeaves room mask c channel a.leaves
  pub whole : Whole room a

-- the bits of a message, if a trial passed
abbrev pub PassedBits : Result Tally Tally → List ℕ → Type 0
PassedBits (Ok t) bits = Bits bits
PassedBits (Err t) bits = Unit {0}

-- the answer to a run that ended so, with the message of the trial that passed
abbrev pub answered : ℕ → Result Tally Tally → List ℕ → List ℕ → Decoded × List ℕ
answered k (Ok t) message output = (Ok t, packed (take k message))
answered k (Err t) message output = (Err (NonePassed t), output)

-- a run ended with its verdict; if a trial passed, `message` begins with its payload
abbrev pub Ran : List ℕ → Code → Verdict → Result Tally Tally → List ℕ → Type 0
Ran mask c (passed trial steps bits) e message =
    (e ≡ Ok (tally trial steps)) × (take c.k message ≡ take c.k (message_in mask c bits)) × Bits (take c.k message)
Ran mask c (failed made steps) e message = e ≡ Err (tally made steps)

-- a run ended with its verdict, and the array of its message has the size that it had
abbrev pub RunPost : ℕ → List ℕ → Code → Verdict → Result Tally Tally → List ℕ → Type 0
RunPost room mask c v e message = Ran mask c v e message × (length message ≡ room)

-- how trial 1 ended: it passed, and so a run ended, whatever later trials it has; or it failed
abbrev pub BeginPost : ℕ → List ℕ → Code → List ℕ → List ℕ → Arrays → Result Tally Tally → Type 0
BeginPost room mask c channel rules a (Ok t) =
    (later : List Out) → RunPost room mask c (run (trial_passes mask c) 0 0 (first_trial mask c (channel_values channel) ∷ later)) (Ok t) a.sums
BeginPost room mask c channel rules a (Err t) =
    (t.trials ≡ 1) × FirstFailed room mask c channel t.steps rules a

-- the keys of trial 1's leaf values
abbrev pub FirstKeys : List ℕ → Code → List ℕ → List ℤ → Type 0
FirstKeys mask c channel keys = Keyed mask (code_length c) (first_trial mask c (channel_values channel)).leaves keys

-- how the run on these terms ends
abbrev pub verdict_by : Terms → List ℕ → Code → List ℕ → Verdict
verdict_by terms mask c channel = run (trial_passes mask c) 0 0 (trials terms mask c (channel_values channel))

-- the answer past all refusals before 16, and the output's final bytes
abbrev pub answer_by : Terms → List ℕ → Code → List ℕ → List ℕ → Decoded × List ℕ
answer_by terms mask c channel output = answer_of mask c output (verdict_by terms mask c channel)
