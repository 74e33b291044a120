-- Document 01, "Code description": "Refused in order". The tests of a call stand in the paper's order, each beside its refusal; the first that
-- holds counts.
use Rattle.std.specs.Prelude.{Bool, not, ◌||◌, cond, List, [], ◌∷◌, ℕ, ltb, eqb, Option, Some, None, Result, Ok, Err}
use Rattle.refusal.specs.declared.Refusal.{Refusal}
use Rattle.refusal.specs.declared.Refusal.TheVariants.{FieldsMissing, LengthField, UnknownKind, CodeLength, MaskLength, CheckLength, Polynomial, NoPayload, PayloadLength, UnusedBit, CodewordLength, ChannelLength, ChannelValue, TrialLimit, OutputLength, PrefixLength, PrefixBit, BitsLength, SamplesLength, Scale, NotANumber, NoDescription, ShortRecord, StartValue, FlipCount, HearingFull, NotAState}

-- whether two numbers differ
abbrev pub differs : ℕ → ℕ → Bool
differs a b = not (eqb a b)

-- whether a number lies outside least..most
abbrev pub outside : ℕ → ℕ → ℕ → Bool
outside x least most = ltb x least || ltb most x

-- what a call answers: `refuse` of its refusal, or `answer` if there is none
unfoldable pub refused_or : {X : Type 0} → Result Unit Refusal → (Refusal → X) → X → X
refused_or (Ok tt) refuse answer = answer
refused_or (Err x) refuse answer = refuse x

-- the refusal beside the first test that holds
unfoldable pub judge : List (Bool × Refusal) → Result Unit Refusal
judge [] = Ok tt
judge (test ∷ tests) = cond test.0 (Err test.1) (judge tests)

-- the number of a refusal past 16
abbrev pub number_past_16 : Refusal → ℕ
number_past_16 = elim [ PrefixLength ↦ 17 | PrefixBit i ↦ 18 | BitsLength ↦ 19 | SamplesLength ↦ 20 | Scale ↦ 21 | NotANumber i ↦ 22 | NoDescription ↦ 23 | ShortRecord ↦ 24 | StartValue ↦ 25 | FlipCount ↦ 26 | HearingFull ↦ 27 | NotAState ↦ 40 | x ↦ 0 ]

-- a refusal's number in the documents; 16 is none of these
abbrev pub number_of : Refusal → ℕ
number_of = elim [ FieldsMissing ↦ 1 | LengthField ↦ 2 | UnknownKind ↦ 3 | CodeLength ↦ 4 | MaskLength ↦ 5 | CheckLength ↦ 6 | Polynomial ↦ 7 | NoPayload ↦ 8 | PayloadLength ↦ 9 | UnusedBit ↦ 10 | CodewordLength ↦ 11 | ChannelLength ↦ 12 | ChannelValue i ↦ 13 | TrialLimit ↦ 14 | OutputLength ↦ 15 | x ↦ number_past_16 x ]

-- the first index that a refusal names, if it names one
abbrev pub index_of : Refusal → Option ℕ
index_of = elim [ ChannelValue i ↦ Some i | PrefixBit i ↦ Some i | NotANumber i ↦ Some i | x ↦ None ]
