-- What only contracts below the public operations cite. Nothing here need be believed.
use Rattle.std.specs.Prelude.{◌≡◌, Bool, cond, List, [], ◌∷◌, ◌++◌, map, ℕ, ◌-◌, ltb, ℤ, length, take, Ok}
use Rattle.refusal.specs.declared.Refusal.{Refusal}
use Rattle.refusal.specs.Clauses.{Judgement}
use Rattle.refusal.specs.Judge.{differs, judge}
use Rattle.bits.specs.Packing.{bytes_for}
use Rattle.code.specs.declared.Code.{Code}
use Rattle.code.specs.Code.{code_length}
use Rattle.code.specs.Claims.{Coded}
use Rattle.pass_tree.specs.Node.{Out}
use Rattle.flip_trial.specs.declared.Restart.{Restart}
use Rattle.flip_trial.specs.Trial.{first_trial, restart_at, later_trial}
use Rattle.decoder.specs.declared.Search.{Search}
use Rattle.decoder.specs.Candidate.{Candidate, extensions, insert_each}
use Rattle.decoder.specs.Tried.{tried}
use Rattle.decoder.specs.Decoder.{Decoder, own_refusals, refusals_of}
use Rattle.refusal.specs.declared.Refusal.TheVariants.{OutputLength}

-- 15 the output is not of the packed payload's size
abbrev pub output_refusals : Code → List ℕ → List (Bool × Refusal)
output_refusals c output = (differs (length output) (bytes_for c.k), OutputLength) ∷ []

-- j judges by all refusals before 16, if `own` judges by the decoder's own
abbrev pub JudgesCall : Judgement → Code → List ℕ → List ℕ → Judgement → Type 0
JudgesCall own c channel output j = (p : Decoder) → own ≡ judge (own_refusals p c) → j ≡ judge (refusals_of p c channel output)

-- a code, and a call under it that no refusal before 16 stops
pub record FinePre (p : Decoder) (mask : List ℕ) (c : Code) (channel output : List ℕ) : Type 0 where
  pub coded : Coded mask c
  pub fine : judge (refusals_of p c channel output) ≡ Ok tt

-- ---- a search by sets, whose trials resume

-- a search by its parts
abbrev pub search_of : Restart → ℕ → ℕ → Search
search_of restart w limit = record { restart = restart; w = w; limit = limit }

-- the leaf values of the trial that flips a set, or of trial 1 if the set is empty: below the index at which it resumes they are trial 1's
abbrev pub leaves_of : Restart → List ℕ → Code → List ℤ → List ℕ → List ℤ
leaves_of restart mask c v [] = (first_trial mask c v).leaves
leaves_of restart mask c v (i ∷ is) =
    take (restart_at restart mask (code_length c) i) (first_trial mask c v).leaves ++ (later_trial restart mask c v (i ∷ is)).leaves

-- the candidates that a failed trial of a search generates
abbrev pub generated_by : Search → List ℕ → Code → List ℤ → List ℕ → List Candidate
generated_by s mask c v is = cond (ltb (length is) s.w) (extensions mask (leaves_of s.restart mask c v is) is (code_length c)) []

-- the sets that the trials of a search try
abbrev pub tried_by : Search → List ℕ → Code → List ℤ → List (List ℕ)
tried_by s mask c v =
    let generate = generated_by s mask c v in
    tried generate (s.limit - 1) (insert_each (s.limit - 1) (generate []) [])

-- the trials of a search, if none passes
abbrev pub set_trials : Search → List ℕ → Code → List ℤ → List Out
set_trials s mask c v = first_trial mask c v ∷ map (later_trial s.restart mask c v) (tried_by s mask c v)
