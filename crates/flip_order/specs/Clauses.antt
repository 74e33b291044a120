-- What only contracts below the public operations cite. Nothing here need be believed.
use Rattle.std.specs.Prelude.{◌≡◌, cond, List, ℕ, zero, suc, ◌+◌, ◌-◌, ◌*◌, ◌^◌, ◌<◌, ◌≤◌, eqb, ℤ, pos, nat_abs, length, get_or, take}
use Rattle.std.specs.Int.Signed.{lt_z}
use Rattle.laws.specs.Table.{table}
use Rattle.laws.specs.Insert.{sort_by}
use Rattle.laws.specs.Clauses.{splice}
use Rattle.arrays.specs.Sizes.{largest_n}
use Rattle.arrays.specs.Claims.{longest}
use Rattle.bits.specs.Mask.{mask_bit}
use Rattle.values.specs.Claims.{Within}
use Rattle.flip_order.specs.Order.{information, before}

-- indices in order
abbrev pub ordered : List ℤ → List ℕ → List ℕ
ordered leaves is = sort_by (before leaves) is

-- the information indices below n in order, by their leaf values
abbrev pub order_in : List ℕ → ℕ → List ℤ → List ℕ
order_in mask n leaves = ordered leaves (information mask n)

-- the key of an information index with a leaf value: by magnitude, equal magnitudes by lower index
abbrev pub key_for : ℤ → ℕ → ℕ
key_for value i = nat_abs value * longest + i

-- the key of an information index, by the leaf values of all indices
abbrev pub key_of : List ℤ → ℕ → ℕ
key_of leaves i = key_for (get_or leaves i (pos 0)) i

-- stands for no key, for example at a frozen index: it is above every key
abbrev pub no_key : ℕ
no_key = 2 ^ 31 - 1

-- the key of an index under a mask: none if it is frozen
abbrev pub key_under : List ℕ → ℤ → ℕ → ℕ
key_under mask value i = cond (eqb (mask_bit mask i) 1) (key_for value i) no_key

-- an array of leaf values with the keys of a mask's indices in their place
abbrev pub keys_of : List ℕ → List ℤ → List ℤ
keys_of mask values = splice values 0 (table (λ i. pos (key_under mask (get_or values i (pos 0)) i)) (8 * length mask))

-- the largest magnitude whose keys are sure to fit
abbrev pub most_magnitude : ℕ
most_magnitude = 2 ^ (30 - largest_n)

-- an index of the mask, with a leaf value whose key fits
pub record KeyPre (mask : List ℕ) (value : ℤ) (i : ℕ) : Type 0 where
  pub below : i < 8 * length mask
  pub fits : i < longest
  pub small : nat_abs value ≤ most_magnitude

-- a leaf value for each index of the mask, each of a key that fits
pub record KeysPre (mask : List ℕ) (values : List ℤ) : Type 0 where
  pub there : 8 * length mask ≤ length values
  pub fits : 8 * length mask ≤ longest
  pub small : Within most_magnitude (take (8 * length mask) values)

-- the key if it is above the last one, otherwise none
abbrev pub above : ℤ → ℤ → ℤ
above last key = cond (lt_z last key) key (pos no_key)

-- the lesser of two keys
abbrev pub lesser : ℤ → ℤ → ℤ
lesser a b = cond (lt_z a b) a b

-- the least of those of the first n keys that are above the last one, or none
unfoldable pub least_above : ℤ → List ℤ → ℕ → ℤ
least_above last keys zero = pos no_key
least_above last keys (suc n) = lesser (above last (get_or keys n (pos 0))) (least_above last keys n)

-- `keys` begins with the keys of the first n indices, by leaf values that are small enough
pub record Keyed (mask : List ℕ) (n : ℕ) (leaves keys : List ℤ) : Type 0 where
  pub fits : n ≤ longest
  pub small : Within most_magnitude leaves
  pub at : (i : ℕ) → i < n → get_or keys i (pos 0) ≡ pos (key_under mask (get_or leaves i (pos 0)) i)
