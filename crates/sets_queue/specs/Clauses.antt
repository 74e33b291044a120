-- What only contracts below the public operations cite. Nothing here need be believed.
use Rattle.std.specs.Prelude.{◌&&◌, cond, List, [], ◌∷◌, ℕ, zero, suc, ◌+◌, ◌-◌, ◌*◌, ◌^◌, ◌/◌, ◌%◌, ◌<◌, ◌≤◌, leb, eqb, ℤ, length, get_or, ◌≡◌, ltb, take, Option, Some, None}
use Rattle.arrays.specs.Claims.{longest}
use Rattle.bits.specs.Mask.{mask_bit}
use Rattle.flip_order.specs.Order.{magnitude_at}
use Rattle.flip_order.specs.Clauses.{most_magnitude}
use Rattle.decoder.specs.Candidate.{Candidate, past_largest, magnitudes}
use Rattle.sets_queue.specs.declared.Stem.{Stem}
use Rattle.laws.specs.Insert.{insert_by}

-- ---- a set as one number

-- the base of its digits: the digit of an index is one above it, and digit 0 stands for no index
abbrev pub base : ℕ
base = 2 * longest

-- the digits of a set, in p places
abbrev pub digits : ℕ → List ℕ → ℕ
digits zero is = 0
digits (suc p) [] = 0
digits (suc p) (i ∷ is) = suc i * base ^ p + digits p is

-- the number of a set: its metric, then three digits
abbrev pub set_key : Candidate → ℕ
set_key x = x.metric * base ^ 3 + digits 3 x.flips

-- the digit of a key that has this weight
abbrev pub digit_at : ℕ → ℕ → ℕ
digit_at weight key = key / weight % base

-- the indices of a key whose first digit is not 0
abbrev pub indices_of : ℕ → List ℕ
indices_of key =
    (digit_at (base ^ 2) key - 1)
    ∷ cond (eqb (digit_at base key) 0) []
    ((digit_at base key - 1) ∷ cond (eqb (digit_at 1 key) 0) [] ((digit_at 1 key - 1) ∷ []))

-- at most `most` indices, each of which has a digit
pub record Digits (most : ℕ) (is : List ℕ) : Type 0 where
  pub few : length is ≤ most
  pub below : (a : ℕ) → a < length is → get_or is a 0 < longest

-- ---- keys in order

-- p keys, and no others, are not above a key
pub record Place (key : ℕ) (keys : List ℕ) (p : ℕ) : Type 0 where
  pub most : p ≤ length keys
  pub last : 0 < p → get_or keys (p - 1) 0 ≤ key
  pub above : (j : ℕ) → p ≤ j → j < length keys → key < get_or keys j 0

-- ---- sets that append an index

-- the leaf values of the first n indices are so small that metrics fit
pub record Small (n : ℕ) (leaves : List ℤ) : Type 0 where
  pub at : (j : ℕ) → j < n → magnitude_at leaves j ≤ most_magnitude

-- a small leaf value for each index of a mask
pub record WalkPre (mask : List ℕ) (leaves : List ℤ) : Type 0 where
  pub there : 8 * length mask ≤ length leaves
  pub fits : 8 * length mask ≤ longest
  pub small : Small (8 * length mask) leaves

-- a set of indices below n that an index can be appended to
pub record SetPre (n : ℕ) (is : List ℕ) : Type 0 where
  pub few : length is ≤ 2
  pub below : (a : ℕ) → a < length is → get_or is a 0 < n
  pub past : past_largest is ≤ n

-- the stem of the set `is`
abbrev pub stem_of : List ℤ → List ℕ → Stem
stem_of leaves is = record { sum = magnitudes leaves is; digits = digits 3 is; weight = base ^ (2 - length is); from = past_largest is }

-- a stem with one more index
abbrev pub stem_with : List ℤ → Stem → ℕ → Stem
stem_with leaves s i =
    record { sum = s.sum + magnitude_at leaves i; digits = s.digits + (i + 1) * s.weight; weight = s.weight / base; from = i + 1 }

-- a stem whose keys fit a machine word
pub record StemFits (s : Stem) : Type 0 where
  pub sum_most : s.sum ≤ 2 * most_magnitude
  pub digits_most : s.digits ≤ base ^ 3
  pub weight_most : s.weight ≤ base ^ 2

-- 1 if an index is doubtful, otherwise 0
abbrev pub doubt : List ℕ → List ℤ → ℕ → ℕ
doubt mask leaves j = cond (eqb (mask_bit mask j) 1 && leb (magnitude_at leaves j) 20) 1 0

-- the key of the set that appends j to a stem, if `small` indices up to and including j are doubtful
abbrev pub key_with : List ℤ → Stem → ℕ → ℕ → ℕ
key_with leaves s small j = (s.sum + magnitude_at leaves j + 6 * small) * base ^ 3 + (s.digits + (j + 1) * s.weight)

-- the keys of the sets that append j to a stem: none if j is frozen, otherwise one
abbrev pub keys_with : List ℕ → List ℤ → Stem → ℕ → ℕ → List ℕ
keys_with mask leaves s small j = cond (eqb (mask_bit mask j) 1) (key_with leaves s small j ∷ []) []

-- ---- the untried sets of a search as a queue of keys

-- the keys in order, and for how many there is room
pub record Untried : Type 0 where
  pub keys : List ℕ
  pub room : ℕ

-- each of some keys in its place among keys that are in order: after every insertion only the first m are kept
unfoldable pub insert_keys : ℕ → List ℕ → List ℕ → List ℕ
insert_keys m [] ks = ks
insert_keys m (key ∷ keys) ks = insert_keys m keys (take m (insert_by ltb key ks))

abbrev pub none_untried : ℕ → Untried
none_untried room = record { keys = []; room = room }

-- more keys inserted
abbrev pub with_keys : List ℕ → Untried → Untried
with_keys new q = record { keys = insert_keys q.room new q.keys; room = q.room }

-- the least key taken, and with it its room
abbrev pub Taken : Option ℕ → Untried → Untried → Type 0
Taken None q q' = (q.keys ≡ []) × (q' ≡ q)
Taken (Some key) q q' = (q.keys ≡ key ∷ q'.keys) × (q.room ≡ q'.room + 1)
