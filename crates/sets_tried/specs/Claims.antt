-- What the theorems of this crate state of the sets that are tried.
use Rattle.std.specs.Prelude.{◌≡◌, true, false, ◌⊎◌, ℕ, zero, suc, ◌-◌, ◌<◌, ◌≤◌, ℤ, pos, length, get_or, take}
use mathlib.Core.List.{List, [], ◌∷◌, ◌++◌, map, Memᴰ}
use Rattle.laws.specs.Insert.{insert_by}
use Rattle.bits.specs.Mask.{mask_bit}
use Rattle.code.specs.declared.Code.{Code}
use Rattle.code.specs.Code.{code_length}
use Rattle.values.specs.Values.{hard}
use Rattle.flip_order.specs.Claims.{Pairwise, ListsInformation}
use Rattle.flip_trial.specs.declared.Restart.{Restart}
use Rattle.flip_trial.specs.Trial.{first_trial, member, later_trial}
use Rattle.flip_trial.specs.Flips.{Flips}
use Rattle.decoder.specs.declared.Search.{Search}
use Rattle.decoder.specs.Candidate.{past_largest, metric_of, Candidate, candidate, precedes, insert_each}
use Rattle.decoder.specs.Clauses.{search_of, leaves_of, generated_by, tried_by}

-- a set that a trial can flip, of at most w indices: `flip_set_each` of proofs/Sets.antt proves it of each set that is tried
pub record FlipSet (mask : List ℕ) (size w : ℕ) (is : List ℕ) : Type 0 where
  pub flips : Flips mask size is
  pub most : length is ≤ w

-- The decisions of the trial that flips a set. `own-decisions` of proofs/Own.antt proves it of every set that can be flipped.
pub record OwnDecisions (restart : Restart) (mask : List ℕ) (c : Code) (v : List ℤ) (is : List ℕ) : Type 0 where
  -- "A trial takes, at each index of its set, the opposite of that trial's own usual decision", wherever it resumes
  pub flipped : (j : ℕ) → j < code_length c → member j is ≡ true
      → get_or (later_trial restart mask c v is).bits j 0 ≡ 1 - hard (get_or (leaves_of restart mask c v is) j (pos 0))
  -- at every other information index it takes the usual decision
  pub others : (j : ℕ) → j < code_length c → member j is ≡ false → mask_bit mask j ≡ 1
      → get_or (later_trial restart mask c v is).bits j 0 ≡ hard (get_or (leaves_of restart mask c v is) j (pos 0))

-- x is the set `is` with an information index below n appended that is above all of its own: `extension_member` of proofs/Members.antt
abbrev pub Extends : List ℕ → List ℤ → List ℕ → ℕ → Candidate → Type 0
Extends mask leaves is n x =
    (j : ℕ) × (j < n) × (mask_bit mask j ≡ 1) × (past_largest is ≤ j) × (x ≡ candidate mask leaves (is ++ (j ∷ [])))

-- each of some candidates in its place, as by `insert_each`, but all are kept
unfoldable pub insert_all : List Candidate → List Candidate → List Candidate
insert_all [] untried = untried
insert_all (x ∷ xs) untried = insert_all xs (insert_by precedes x untried)

-- the sets that are tried while m trials remain by a search that keeps every untried set. `kept_loses_nothing` of proofs/Kept.antt proves
-- that they are those of `tried`.
unfoldable pub tried_of_all : (List ℕ → List Candidate) → ℕ → List Candidate → List (List ℕ)
tried_of_all generate zero untried = []
tried_of_all generate (suc m) [] = []
tried_of_all generate (suc m) (x ∷ untried) = x.flips ∷ tried_of_all generate m (insert_all (generate x.flips) untried)

-- the untried sets that are kept when t sets have been tried, if m trials remained before
unfoldable pub kept_after : (List ℕ → List Candidate) → ℕ → ℕ → List Candidate → List Candidate
kept_after generate m zero untried = untried
kept_after generate m (suc t) [] = []
kept_after generate m (suc t) (x ∷ untried) = kept_after generate (m - 1) t (insert_each (m - 1) (generate x.flips) untried)

-- "After every insertion, keep only as many untried sets as trials remain." `kept_few` of proofs/Kept.antt
abbrev pub KeptFew : Type 0
KeptFew = (generate : List ℕ → List Candidate) (m t : ℕ) → length (kept_after generate m t (insert_each m (generate []) [])) ≤ m - t

-- the untried sets when t sets have been tried, by a search that keeps every untried set
unfoldable pub untried_after : (List ℕ → List Candidate) → ℕ → List Candidate → List Candidate
untried_after generate zero untried = untried
untried_after generate (suc t) [] = []
untried_after generate (suc t) (x ∷ untried) = untried_after generate t (insert_all (generate x.flips) untried)

-- x's metric is "taken from the trial that generated it"
pub record OwnMetric (s : Search) (mask : List ℕ) (c : Code) (v : List ℤ) (x : Candidate) : Type 0 where
  -- the set of that trial: x's own without its last index, empty for trial 1
  pub is : List ℕ
  -- the last index of x's set
  pub j : ℕ
  pub flips_are : x.flips ≡ is ++ (j ∷ [])
  pub metric_is : x.metric ≡ metric_of mask (leaves_of s.restart mask c v is) x.flips

-- "Order is metric, then the list of indices, lower first", for every w. `least_first` of proofs/Least.antt proves it of each set that is tried.
pub record LeastFirst (s : Search) (mask : List ℕ) (c : Code) (v : List ℤ) (t : ℕ) : Type 0 where
  -- the set that is tried when t sets have been tried
  pub next : Candidate
  -- all others that have been generated and not tried, also those that are not kept
  pub others : List Candidate
  pub untried_are : untried_after (generated_by s mask c v) t (insert_all (generated_by s mask c v []) []) ≡ next ∷ others
  pub tries : get_or (tried_by s mask c v) t [] ≡ next.flips
  -- it comes before all others
  pub least : (y : Candidate) → Memᴰ y others → precedes next y ≡ true
  pub metrics : (y : Candidate) → Memᴰ y (next ∷ others) → OwnMetric s mask c v y

-- the set of i alone has the smaller metric, or an equal metric and the lower index
abbrev pub MetricFirst : List ℕ → List ℤ → ℕ → ℕ → Type 0
MetricFirst mask leaves i j =
    (metric_of mask leaves (i ∷ []) < metric_of mask leaves (j ∷ []))
    ⊎ ((metric_of mask leaves (i ∷ []) ≡ metric_of mask leaves (j ∷ [])) × (i < j))

-- With w = 1 the sets are the information indices, each alone, in one order for every restart and limit. `singles` of proofs/Singles.antt
-- proves it.
pub record Singles (mask : List ℕ) (c : Code) (v : List ℤ) : Type 0 where
  -- the information indices in that order
  pub is : List ℕ
  pub sets_are : (restart : Restart) (limit : ℕ) → tried_by (search_of restart 1 limit) mask c v ≡ map (λ i. i ∷ []) (take (limit - 1) is)
  pub lists : ListsInformation mask (code_length c) is
  -- by metric, then by index
  pub sorted : Pairwise (MetricFirst mask (first_trial mask c v).leaves) is
