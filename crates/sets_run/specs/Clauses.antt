-- What only contracts below the public operations cite. Nothing here need be believed.
use Rattle.std.specs.Prelude.{◌≡◌, cond, List, [], map, ℕ, ◌-◌, ◌≤◌, ◌<◌, ltb, ℤ, length, take}
use Rattle.laws.specs.Clauses.{splice}
use Rattle.bits.specs.Packing.{bytes_for}
use Rattle.code.specs.declared.Code.{Code}
use Rattle.code.specs.Code.{code_length}
use Rattle.channel.specs.Channel.{channel_values}
use Rattle.flip_trial.specs.Trial.{lowest, restart_at, trial_passes}
use Rattle.flip_trial.specs.Clauses.{FirstLeaves}
use Rattle.flip_run.specs.Trials.{Verdict, run, answer_of}
use Rattle.flip_run.specs.Clauses.{FramePre, Decoded}
use Rattle.decoder.specs.declared.Search.{Search}
use Rattle.decoder.specs.Candidate.{Candidate, extensions, insert_each}
use Rattle.decoder.specs.Decoder.{most_limit}
use Rattle.decoder.specs.Clauses.{generated_by, set_trials}
use Rattle.sets_queue.specs.Clauses.{set_key, Small, Untried}

-- where the trial of a set resumes
abbrev pub resumed_at : Search → List ℕ → Code → List ℕ → ℕ
resumed_at s mask c is = restart_at s.restart mask (code_length c) (lowest is)

-- the leaf values of a trial that resumed at q, in an array, with trial 1's below q
abbrev pub leaves_from : ℕ → List ℤ → List ℤ → List ℤ
leaves_from q values leaves = splice leaves 0 (take q values)

-- what the trial of a set that resumed at q generates by these leaf values, of `size` indices
abbrev pub generated_from : Search → ℕ → ℕ → List ℕ → List ℤ → List ℤ → List ℕ → List Candidate
generated_from s size q mask values leaves is =
    cond (ltb (length is) s.w) (extensions mask (leaves_from q values leaves) is size) []

-- leaf values of each of `size` indices, whose metrics fit
pub record HeldLeaves (size q : ℕ) (values leaves : List ℤ) : Type 0 where
  pub q_most : q ≤ size
  pub values_there : size ≤ length values
  pub leaves_there : size ≤ length leaves
  pub small : Small size (leaves_from q values leaves)

-- a search of at most three flips, and leaf values of each index if the set is not the largest
pub record LeavesPre (s : Search) (size q : ℕ) (is : List ℕ) (values leaves : List ℤ) : Type 0 where
  pub flips_most : s.w ≤ 3
  pub held : length is < s.w → HeldLeaves size q values leaves

-- channel values for a code, and a search that is allowed
pub record SetsPre (s : Search) (mask : List ℕ) (c : Code) (channel : List ℕ) : Type 0 where
  pub frame : FramePre mask c channel
  pub flips_least : 1 ≤ s.w
  pub flips_most : s.w ≤ 3
  pub limit_least : 1 ≤ s.limit
  pub limit_most : s.limit ≤ most_limit s.w c

-- what holds past all refusals before 16
pub record SearchPre (s : Search) (mask : List ℕ) (c : Code) (channel output : List ℕ) : Type 0 where
  pub sets : SetsPre s mask c channel
  pub output_size : length output ≡ bytes_for c.k

-- trial 1's leaf values, if sets have more than one index
abbrev pub LeavesIfRead : ℕ → Search → List ℕ → Code → List ℕ → List ℤ → Type 0
LeavesIfRead room s mask c channel values = 1 < s.w → FirstLeaves room mask c channel values

-- the sets that trial 1 generates, as many as there are later trials at most
abbrev pub first_untried : Search → List ℕ → Code → List ℕ → Untried
first_untried s mask c channel = record {
  keys = map set_key (insert_each (s.limit - 1) (generated_by s mask c (channel_values channel) []) []);
  room = s.limit - 1;
}

-- how the run of a search ends
abbrev pub verdict_by : Search → List ℕ → Code → List ℕ → Verdict
verdict_by s mask c channel = run (trial_passes mask c) 0 0 (set_trials s mask c (channel_values channel))

-- the answer past all refusals before 16, and the output's final bytes
abbrev pub answer_by : Search → List ℕ → Code → List ℕ → List ℕ → Decoded × List ℕ
answer_by s mask c channel output = answer_of mask c output (verdict_by s mask c channel)
