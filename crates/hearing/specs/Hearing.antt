-- Document 02, request 2.6: "Hold N combined values for a code, starting at zero, and a count of hearings." Values are bytes in two's
-- complement, like those of a channel. A hearing has room for those of the longest code; what follows the N of its code is zero.
use Rattle.std.specs.Prelude.{Bool, ◌&&◌, cond, List, [], ◌∷◌, ◌++◌, ℕ, ◌+◌, ◌^◌, leb, eqb, ◌+ℤ◌, get_or, take, drop}
use Rattle.laws.specs.Table.{table}
use Rattle.refusal.specs.declared.Refusal.{Refusal}
use Rattle.arrays.specs.Sizes.{largest_n}
use Rattle.arrays.specs.Padded.{padded, all_zero}
use Rattle.code.specs.declared.Code.{Code}
use Rattle.code.specs.Code.{code_length}
use Rattle.channel.specs.Channel.{channel_value, byte_of, clip, first_outside, channel_refusals}
use Rattle.refusal.specs.declared.Refusal.TheVariants.{HearingFull}

-- the vectors of a frame, added up
pub record Hearing : Type 0 where
  -- the combined values: as many as the longest code has, and zeros after those of the code
  pub values : List ℕ
  -- how many vectors they are of
  pub count : ℕ

-- a hearing by its values and its count
abbrev pub hearing_of : List ℕ → ℕ → Hearing
hearing_of values count = record { values = padded (2 ^ largest_n) values; count = count }

-- the N combined values
abbrev pub combined : Code → Hearing → List ℕ
combined c h = take (code_length c) h.values

-- "starting at zero": before the first add, and what "Clearing returns zeros and count 0" returns
abbrev pub fresh : Hearing
fresh = hearing_of [] 0

-- "Adding a vector adds value by value and clips to −31..31"
abbrev pub clipped_sums : ℕ → List ℕ → List ℕ → List ℕ
clipped_sums size values channel = table (λ i. byte_of (clip (channel_value (get_or values i 0) +ℤ channel_value (get_or channel i 0)))) size

-- a hearing after one more vector
abbrev pub added_to : Code → Hearing → List ℕ → Hearing
added_to c h channel = hearing_of (clipped_sums (code_length c) h.values channel) (h.count + 1)

-- "The add applies 12 and 13 to its vector. It refuses, as 27 after 13, a hearing when the count is 255."
abbrev pub add_refusals : Code → ℕ → List ℕ → List (Bool × Refusal)
add_refusals c count channel = channel_refusals c channel ++ ((eqb count 255, HearingFull) ∷ [])

-- whether a list of adds and clears can leave this hearing under a code: a count of at most 255, values in −31..31, and zeros after the N of its code, or
-- zeros alone if the count is 0. Adds and clears leave exactly these: `held_after` and `left_by_some` of crate `hearing_demands`.
abbrev pub is_hearing : Code → Hearing → Bool
is_hearing c h =
    leb h.count 255
    && (all_zero (drop (cond (eqb h.count 0) 0 (code_length c)) h.values) && eqb (first_outside (combined c h)) (code_length c))
