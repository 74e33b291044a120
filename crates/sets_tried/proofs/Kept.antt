-- Only as many untried sets are kept as trials remain, and that loses nothing: the sets tried are those of a search that keeps all of them.
-- So a larger limit tries the same sets first.
use mathlib.Core.Path.{◌≡◌, refl, sym, ap, ◌∙◌}
use mathlib.Core.List.{List, [], ◌∷◌}
use Prim.Native.Nat.{ℕ, zero, suc, ◌+◌, ◌-◌, ◌≤◌}
use native.Mathlib.Omega.{arith}
use lib.IntN.{ℤ}
use lib.ListN.{length, take, length-take}
use lib.Seq.{take-nil, take_all}
use Rattle.laws.specs.Insert.{insert_by}
use Rattle.laws.proofs.Insert.{take_insert}
use Rattle.code.specs.declared.Code.{Code}
use Rattle.flip_trial.specs.declared.Restart.{Restart}
use Rattle.decoder.specs.declared.Search.{Search}
use Rattle.decoder.specs.Candidate.{Candidate, precedes, insert_each}
use Rattle.decoder.specs.Tried.{tried}
use Rattle.decoder.specs.Clauses.{search_of, generated_by, tried_by}
use Rattle.sets_tried.specs.Claims.{insert_all, tried_of_all, kept_after, KeptFew}

-- ---- keeping the first m

insert_each-take : (m : ℕ) (xs ys : List Candidate) → insert_each m xs (take m ys) ≡ take m (insert_all xs ys)
unfolding insert_each insert_all
insert_each-take m [] ys = refl
insert_each-take m (x ∷ xs) ys = ap (insert_each m xs) (take_insert precedes m x ys) ∙ insert_each-take m xs (insert_by precedes x ys)

-- with room for all of them, all are kept
pub insert_each-all : (xs ys : List Candidate) → insert_each (length ys + length (insert_all xs ys)) xs ys ≡ insert_all xs ys
insert_each-all xs ys =
    let m : ℕ = length ys + length (insert_all xs ys) in
    ap (insert_each m xs) (sym (take_all m ys (omega arith))) ∙ insert_each-take m xs ys ∙ take_all m (insert_all xs ys) (omega arith)

-- after insertions no more than m are kept
insert_each_few : (m : ℕ) (xs ys : List Candidate) → length ys ≤ m → length (insert_each m xs ys) ≤ m
unfolding insert_each
insert_each_few m [] ys l = l
insert_each_few m (x ∷ xs) ys l =
    let all : List Candidate = insert_by precedes x ys in
    insert_each_few m xs (take m all) (omega (arith, length-take m all))

kept_after_few : (generate : List ℕ → List Candidate) (m t : ℕ) (ys : List Candidate) → length ys ≤ m → length (kept_after generate m t ys) ≤ m - t
unfolding kept_after
kept_after_few generate m zero ys l = omega arith
kept_after_few generate m (suc t) [] l = omega arith
kept_after_few generate m (suc t) (y ∷ ys) l =
    let next : List Candidate = insert_each (m - 1) (generate y.flips) ys in
    omega (arith, kept_after_few generate (m - 1) t next (insert_each_few (m - 1) (generate y.flips) ys (omega arith)))

pub kept_few : KeptFew
kept_few generate m t = kept_after_few generate m t (insert_each m (generate []) []) (insert_each_few m (generate []) [] (omega arith))

module _ (generate : List ℕ → List Candidate) where
  tried-take : (m : ℕ) (xs : List Candidate) → tried generate m (take m xs) ≡ tried_of_all generate m xs
  unfolding tried tried_of_all
  tried-take zero xs = refl
  tried-take (suc m) [] = refl
  tried-take (suc m) (x ∷ xs) =
      ap (λ (is : List (List ℕ)). x.flips ∷ is)
      (ap (tried generate m) (insert_each-take m (generate x.flips) xs) ∙ tried-take m (insert_all (generate x.flips) xs))

  -- ---- the search that keeps all, by how many trials remain

  take-tried : (m n : ℕ) (xs : List Candidate) → m ≤ n → tried_of_all generate m xs ≡ take m (tried_of_all generate n xs)
  unfolding tried_of_all
  take-tried zero n xs l = refl
  take-tried (suc m) zero xs l = absurd (omega arith)
  take-tried (suc m) (suc n) [] l = refl
  take-tried (suc m) (suc n) (x ∷ xs) l =
      ap (λ (is : List (List ℕ)). x.flips ∷ is) (take-tried m n (insert_all (generate x.flips) xs) (omega arith))

  length-tried : (m : ℕ) (xs : List Candidate) → length (tried_of_all generate m xs) ≤ m
  unfolding tried_of_all
  length-tried zero xs = omega arith
  length-tried (suc m) [] = omega arith
  length-tried (suc m) (x ∷ xs) = omega (arith, length-tried m (insert_all (generate x.flips) xs))

-- ---- the sets of a search

pub kept_loses_nothing : (s : Search) (mask : List ℕ) (c : Code) (v : List ℤ) → tried_by s mask c v ≡ tried_of_all (generated_by s mask c v) (s.limit - 1) (insert_all (generated_by s mask c v []) [])
kept_loses_nothing s mask c v =
    let m : ℕ = s.limit - 1 in
    let first : List Candidate = generated_by s mask c v [] in
    ap (tried (generated_by s mask c v) m) (ap (insert_each m first) (sym (take-nil m)) ∙ insert_each-take m first [])
    ∙ tried-take (generated_by s mask c v) m (insert_all first [])

-- at most one set for each trial after the first
pub length-sets : (s : Search) (mask : List ℕ) (c : Code) (v : List ℤ) → length (tried_by s mask c v) ≤ s.limit - 1
length-sets s mask c v =
    omega (arith, ap length (kept_loses_nothing s mask c v), length-tried (generated_by s mask c v) (s.limit - 1) (insert_all (generated_by s mask c v []) []))

module _ (restart : Restart) (w limit limit' : ℕ) (mask : List ℕ) (c : Code) (v : List ℤ) (l : limit ≤ limit') where
  abbrev generate : List ℕ → List Candidate
  generate = generated_by (search_of restart w limit) mask c v

  abbrev first : List Candidate
  first = insert_all (generate []) []

  -- a larger limit tries the same sets first
  pub take-sets : tried_by (search_of restart w limit) mask c v ≡ take (limit - 1) (tried_by (search_of restart w limit') mask c v)
  take-sets =
      kept_loses_nothing (search_of restart w limit) mask c v ∙ take-tried generate (limit - 1) (limit' - 1) first (omega arith)
      ∙ ap (take (limit - 1)) (sym (kept_loses_nothing (search_of restart w limit') mask c v))
