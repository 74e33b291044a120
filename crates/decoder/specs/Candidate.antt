-- Document 02, request 2.2, after document 000's dynamic method: sets of flipped indices that are not tried yet. A set is a list of
-- information indices, ascending.
use Rattle.std.specs.Prelude.{Bool, ◌&&◌, ◌||◌, cond, List, [], ◌∷◌, ◌++◌, ℕ, zero, suc, ◌+◌, ◌*◌, leb, ltb, eqb, ℤ, take}
use Rattle.laws.specs.Insert.{insert_by, earlier}
use Rattle.bits.specs.Mask.{mask_bit}
use Rattle.flip_order.specs.Order.{magnitude_at}

-- one past the largest index of a set, 0 if it is empty
abbrev pub past_largest : List ℕ → ℕ
past_largest [] = 0
past_largest (i ∷ []) = suc i
past_largest (i ∷ j ∷ is) = past_largest (j ∷ is)

-- the sum of a set's leaf magnitudes
abbrev pub magnitudes : List ℤ → List ℕ → ℕ
magnitudes leaves [] = 0
magnitudes leaves (i ∷ is) = magnitude_at leaves i + magnitudes leaves is

-- how many information indices below n have a magnitude of at most 20
unfoldable pub doubtful : List ℕ → List ℤ → ℕ → ℕ
doubtful mask leaves zero = 0
doubtful mask leaves (suc n) = doubtful mask leaves n + cond (eqb (mask_bit mask n) 1 && leb (magnitude_at leaves n) 20) 1 0

-- a set's metric: the sum of its leaf magnitudes, and 6 for each information index up to and including its largest whose magnitude is at
-- most 20
abbrev pub metric_of : List ℕ → List ℤ → List ℕ → ℕ
metric_of mask leaves is = magnitudes leaves is + 6 * doubtful mask leaves (past_largest is)

-- a set to try
pub record Candidate : Type 0 where
  -- its indices, ascending
  pub flips : List ℕ
  -- its metric, from the trial that generated it
  pub metric : ℕ

-- a set to try, with its metric by these leaf values
abbrev pub candidate : List ℕ → List ℤ → List ℕ → Candidate
candidate mask leaves is = record { flips = is; metric = metric_of mask leaves is }

-- the candidates that a trial with the set `is` and these leaf values generates: each appends an information index above its largest and
-- below n
unfoldable pub extensions : List ℕ → List ℤ → List ℕ → ℕ → List Candidate
extensions mask leaves is zero = []
extensions mask leaves is (suc n) =
    extensions mask leaves is n
    ++ cond (eqb (mask_bit mask n) 1 && leb (past_largest is) n) (candidate mask leaves (is ++ (n ∷ [])) ∷ []) []

-- whether x comes before y: lower metric first, and of equal metrics the lower list of indices
abbrev pub precedes : Candidate → Candidate → Bool
precedes x y = ltb x.metric y.metric || (eqb x.metric y.metric && earlier x.flips y.flips)

-- each of some candidates in its place among untried sets that are in order: after every insertion only the first m sets are kept
unfoldable pub insert_each : ℕ → List Candidate → List Candidate → List Candidate
insert_each m [] untried = untried
insert_each m (x ∷ xs) untried = insert_each m xs (take m (insert_by precedes x untried))
