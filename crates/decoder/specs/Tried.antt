-- Document 02, request 2.2: the sets that the trials of a run try.
use Rattle.std.specs.Prelude.{cond, List, [], ◌∷◌, ℕ, zero, suc, ◌-◌, ltb, ℤ, length}
use Rattle.code.specs.declared.Code.{Code}
use Rattle.code.specs.Code.{code_length}
use Rattle.flip_trial.specs.declared.Restart.TheVariants.{Root}
use Rattle.flip_trial.specs.Trial.{later_trial}
use Rattle.decoder.specs.Candidate.{Candidate, extensions, insert_each}

-- the candidates that the failed trial of a set generates, by its own leaf values: none if the set has w indices. The trial that flips no index is
-- trial 1. A trial that resumes has the leaf values of the whole trial at every information index (`same-generated` of sets_tried/proofs/Same.antt).
abbrev pub generated : ℕ → List ℕ → Code → List ℤ → List ℕ → List Candidate
generated w mask c v is = cond (ltb (length is) w) (extensions mask (later_trial Root mask c v is).leaves is (code_length c)) []

-- the sets that are tried while m trials remain, each the first of the untried sets: if it fails, as many are kept as trials remain
unfoldable pub tried : (List ℕ → List Candidate) → ℕ → List Candidate → List (List ℕ)
tried generate zero untried = []
tried generate (suc m) [] = []
tried generate (suc m) (x ∷ untried) = x.flips ∷ tried generate m (insert_each m (generate x.flips) untried)

-- the sets of at most w indices that the trials up to the limit try: trial 1 generates the first of them
abbrev pub flip_sets : ℕ → ℕ → List ℕ → Code → List ℤ → List (List ℕ)
flip_sets w limit mask c v =
    let generate = generated w mask c v in
    tried generate (limit - 1) (insert_each (limit - 1) (generate []) [])
