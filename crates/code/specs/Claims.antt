-- Which descriptions are accepted, and what an accepted one says, the facts that encoder and decoders build on.
use Rattle.std.specs.Prelude.{◌≡◌, Bool, true, List, [], ◌∷◌, ◌++◌, ℕ, ◌+◌, ◌-◌, ◌*◌, ◌/◌, ◌%◌, ◌^◌, ◌≤◌, ◌<◌, ltb, length, get_or, drop, Err, Ok, Result}
use Rattle.refusal.specs.declared.Refusal.{Refusal}
use Rattle.refusal.specs.Judge.{differs, outside, judge, refused_or}
use Rattle.arrays.specs.Sizes.{largest_n}
use Rattle.bits.specs.Bit.{bit}
use Rattle.bits.specs.Mask.{ones_in}
use Rattle.code.specs.declared.Code.{Code}
use Rattle.code.specs.Code.{code_length, information_count}
use Rattle.code.specs.Description.{word, is_description, mask_at, mask_of, start_of, is_wide, bad_polynomial, describe}
use Rattle.refusal.specs.declared.Refusal.TheVariants.{CheckLength, CodeLength, FieldsMissing, LengthField, MaskLength, NoPayload, Polynomial, StartValue, UnknownKind}

-- the layout of a description's bytes: refusals 1 to 5 in turn do not apply
pub record Laid (d : List ℕ) : Type 0 where
  pub header : mask_at (word d 2) ≤ length d
  pub length_field : word d 0 ≡ length d
  pub kind_field : is_description (word d 2) ≡ true
  pub n_least : 3 ≤ get_or d 4 0
  pub n_most : get_or d 4 0 ≤ largest_n
  pub size : length d ≡ mask_at (word d 2) + 2 ^ get_or d 4 0 / 8

-- refusals 1 to 7, 25 and 8 in turn do not apply. `well_formed_exactly` of proofs/WellFormed.antt: a description is accepted exactly if it is
-- well-formed.
pub record WellFormed (d : List ℕ) : Type 0 where
  pub laid : Laid d
  pub r_least : 1 ≤ get_or d 5 0
  pub r_most : get_or d 5 0 ≤ 16
  pub polynomial_odd : bit (word d 6) 0 ≡ 1
  pub polynomial_fits : word d 6 < 2 ^ get_or d 5 0
  pub start_fits : start_of d < 2 ^ get_or d 5 0
  pub K_least : get_or d 5 0 + 1 ≤ ones_in (mask_of d)

-- d describes a code, and the rest of a call's input is well-formed under it, which W says. An operation that takes a description accepts exactly
-- this input: `well_formed_exactly` of each.
pub record WellFormedUnder (d : List ℕ) (W : Code → Type 0) : Type 0 where
  pub code : Code
  pub describes : describe d ≡ Ok code
  pub rest : W code

-- a code under a mask
pub record Coded (mask : List ℕ) (c : Code) : Type 0 where
  pub n_least : 3 ≤ c.n
  pub n_most : c.n ≤ largest_n
  pub r_least : 1 ≤ c.r
  pub r_most : c.r ≤ 16
  pub start_fits : c.start < 2 ^ c.r
  pub mask_size : 8 * length mask ≡ code_length c
  pub k_least : 1 ≤ c.k
  pub K_is : ones_in mask ≡ information_count c
  pub K_most : information_count c ≤ code_length c

-- a code under the mask of the description d, and its polynomial: `described` of proofs/Facts.antt
pub record Described (d : List ℕ) (c : Code) : Type 0 where
  pub coded : Coded (mask_of d) c
  pub polynomial_odd : bit c.polynomial 0 ≡ 1
  pub polynomial_fits : c.polynomial < 2 ^ c.r
  pub header : mask_at (word d 2) ≤ length d

-- ---- kinds 1 and 4 apart: proofs/TwoKinds.antt

-- the refusals of records of one kind: its mask begins at byte `at`, and `own` has the tests of the fields that it alone has
abbrev pub refusals_at : ℕ → ℕ → List (Bool × Refusal) → List ℕ → List (Bool × Refusal)
refusals_at kind at own d =
    let n = get_or d 4 0 in
    let r = get_or d 5 0 in
    (ltb (length d) at, FieldsMissing)
    ∷ (differs (word d 0) (length d), LengthField)
    ∷ (differs (word d 2) kind, UnknownKind)
    ∷ (outside n 3 largest_n, CodeLength)
    ∷ (differs (length d) (at + 2 ^ n / 8), MaskLength)
    ∷ (outside r 1 16, CheckLength)
    ∷ (bad_polynomial (word d 6) r, Polynomial)
    ∷ (own ++ ((ltb (ones_in (drop at d)) (r + 1), NoPayload) ∷ []))

-- the code of a record whose mask begins at byte `at`, with a start
abbrev pub code_at : ℕ → ℕ → List ℕ → Code
code_at at start d = record { n = get_or d 4 0; r = get_or d 5 0; polynomial = word d 6; start = start; k = ones_in (drop at d) - get_or d 5 0 }

-- Document 01 by itself knows kind 1: refusals 1 to 8, the mask from byte 8 on, and a check that starts at 0. `kind_1`: the answer to every
-- slice that does not say kind 4.
abbrev pub describe_kind1 : List ℕ → Result Code Refusal
describe_kind1 d = refused_or (judge (refusals_at 1 8 [] d)) Err (Ok (code_at 8 0 d))

-- Document 02, request 2.1, by itself knows kind 4: at least 10 bytes, refusal 25 between 7 and 8, and the mask from byte 10 on. `kind_4`: the
-- answer to every slice that says kind 4.
abbrev pub describe_kind4 : List ℕ → Result Code Refusal
describe_kind4 d =
    refused_or (judge (refusals_at 4 10 ((is_wide (word d 8) (get_or d 5 0), StartValue) ∷ []) d)) Err (Ok (code_at 10 (word d 8) d))

-- the record of kind 4 with the fields and the mask of the record d of kind 1, and a start value. `start_0`: with start 0 it has the answer
-- to d, if d has the 8 bytes of its fields.
abbrev pub with_start : ℕ → List ℕ → List ℕ
with_start start d =
    let size = word d 0 + 2 in
    size % 256 ∷ size / 256 ∷ 4 ∷ 0 ∷ get_or d 4 0 ∷ get_or d 5 0 ∷ get_or d 6 0 ∷ get_or d 7 0 ∷ start % 256 ∷ start / 256 ∷ drop 8 d
