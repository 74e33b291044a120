-- What the theorems of this crate state of its definitions.
use Rattle.std.specs.Prelude.{◌≡◌, false, ℕ, ◌≤◌, ◌<◌, length, get_or}
use mathlib.Core.List.{List, [], ◌∷◌, ◌++◌, flatten}
use Rattle.code.specs.Description.{word}
use Rattle.receive_record.specs.Respond.{responded}
use Rattle.receive_stream.specs.Stream.{starts_whole}

-- a whole record
pub record IsRecord (bytes : List ℕ) : Type 0 where
  -- it has length and kind
  pub least : 4 ≤ length bytes
  -- its length field is the number of its bytes
  pub length_is : word bytes 0 ≡ length bytes

-- Whole records in order, and what is left of the input.
-- `records_of_lem` and `records_only` of proofs/Split.antt prove that `records_of` finds these and no others.
pub record Split (input : List ℕ) (records : List (List ℕ)) (left : List ℕ) : Type 0 where
  -- together they are the input
  pub joins : flatten records ++ left ≡ input
  -- each record is whole
  pub each : (i : ℕ) → i < length records → IsRecord (get_or records i [])
  -- what is left begins with no whole record
  pub none : starts_whole left ≡ false

-- the description that is held after records
abbrev pub held_after : List ℕ → List (List ℕ) → List ℕ
held_after held [] = held
held_after held (bytes ∷ more) = held_after (responded held bytes).1 more
