-- Document 01, "Code description": what the bytes of a record of kind 1 or 4 describe, and refusals 1 to 7, 25 and 8 in order. The largest n is
-- a parameter: crate `theorems_largest` compares the answers of two.
use Rattle.std.specs.Prelude.{Bool, not, ◌||◌, cond, List, [], ◌∷◌, ℕ, ◌+◌, ◌-◌, ◌*◌, ◌/◌, ◌^◌, ltb, eqb, length, get_or, drop, Result, Ok, Err}
use Rattle.refusal.specs.declared.Refusal.{Refusal}
use Rattle.refusal.specs.Judge.{differs, outside, judge, refused_or}
use Rattle.arrays.specs.Sizes.{largest_n}
use Rattle.bits.specs.Bit.{bit}
use Rattle.bits.specs.Mask.{ones_in}
use Rattle.code.specs.declared.Code.{Code}
use Rattle.refusal.specs.declared.Refusal.TheVariants.{CheckLength, CodeLength, FieldsMissing, LengthField, MaskLength, NoPayload, Polynomial, StartValue, UnknownKind}

-- the little-endian number at bytes i and i + 1
abbrev pub word : List ℕ → ℕ → ℕ
word d i = get_or d i 0 + 256 * get_or d (i + 1) 0

-- kind 4 has kind 1's fields and a start value of the check
abbrev pub has_start : ℕ → Bool
has_start kind = eqb kind 4

-- a record of kind 1 or 4 is a description
abbrev pub is_description : ℕ → Bool
is_description kind = eqb kind 1 || has_start kind

-- the index of the first byte of the mask, which follows the fields: 8 bytes of every kind, and 2 of a start value. A shorter slice is refused
-- as 1. `word` reads zeros past the end: a slice too short to hold a kind has fewer than 8 bytes, so it is refused as 1 whatever kind is read.
abbrev pub mask_at : ℕ → ℕ
mask_at kind = 8 + cond (has_start kind) 2 0

-- the mask: the bytes from that index on
abbrev pub mask_of : List ℕ → List ℕ
mask_of d = drop (mask_at (word d 2)) d

-- the start value: bytes 8 and 9 of kind 4, and 0 for kind 1
abbrev pub start_of : List ℕ → ℕ
start_of d = cond (has_start (word d 2)) (word d 8) 0

-- a bit at r or above is set
abbrev pub is_wide : ℕ → ℕ → Bool
is_wide x r = differs (x / 2 ^ r) 0

-- bit 0 is clear, or a bit at r or above is set
abbrev pub bad_polynomial : ℕ → ℕ → Bool
bad_polynomial p r = eqb (bit p 0) 0 || is_wide p r

-- the refusals in order, each test beside its refusal; `largest` is the largest n that is not refused
abbrev pub refusals_up_to : ℕ → List ℕ → List (Bool × Refusal)
refusals_up_to largest d =
    let kind = word d 2 in
    let n = get_or d 4 0 in
    let r = get_or d 5 0 in
    (ltb (length d) (mask_at kind), FieldsMissing)
    ∷ (differs (word d 0) (length d), LengthField)
    ∷ (not (is_description kind), UnknownKind)
    ∷ (outside n 3 largest, CodeLength)
    ∷ (differs (length d) (mask_at kind + 2 ^ n / 8), MaskLength)
    ∷ (outside r 1 16, CheckLength)
    ∷ (bad_polynomial (word d 6) r, Polynomial)
    ∷ (is_wide (start_of d) r, StartValue)
    ∷ (ltb (ones_in (mask_of d)) (r + 1), NoPayload)
    ∷ []

-- n, r, polynomial, start and k, which is K - r
abbrev pub code_of : List ℕ → Code
code_of d = record { n = get_or d 4 0; r = get_or d 5 0; polynomial = word d 6; start = start_of d; k = ones_in (mask_of d) - get_or d 5 0 }

-- the answer, with `largest` as the largest n
unfoldable pub describe_up_to : ℕ → List ℕ → Result Code Refusal
describe_up_to largest d = refused_or (judge (refusals_up_to largest d)) Err (Ok (code_of d))

-- the answer, with `largest_n` as the largest n
abbrev pub describe : List ℕ → Result Code Refusal
describe d = describe_up_to largest_n d

-- Operations that take a description apply its refusals first: `refuse` is their answer to a refusal, `go` their answer under a code.
abbrev pub on_description : {X : Type 0} → Result Code Refusal → (Refusal → X) → (Code → X) → X
on_description (Ok c) refuse go = go c
on_description (Err x) refuse go = refuse x
