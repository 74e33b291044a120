-- Document 01, "Sample quantiser": the answer and the output bytes, with refusals 20, 21 and 22 in order.
use Rattle.std.specs.Prelude.{Bool, false, not, ◌&&◌, cond, List, [], ◌∷◌, ℕ, zero, suc, ◌+◌, ltb, Float, length, get_or, Result, Ok, Err}
use Rattle.std.specs.Float.{nan, inf, binary32}
use Rattle.std.specs.Float.Ieee.{mul, lt, is_nan}
use Rattle.laws.specs.First.{first_where}
use Rattle.laws.specs.Table.{table}
use Rattle.refusal.specs.declared.Refusal.{Refusal}
use Rattle.refusal.specs.Judge.{differs, judge, refused_or}
use Rattle.quantiser_level.specs.Level.{plus_zero, level_of}
use Rattle.quantiser.specs.declared.Summary.{Summary}
use Rattle.refusal.specs.declared.Refusal.TheVariants.{NotANumber, SamplesLength, Scale}

-- p for sample i: scale · y, rounded a single time
abbrev pub product : Float → List Float → ℕ → Float
product scale samples i = mul binary32 scale (get_or samples i nan)

-- the output bytes for the products p 0, …, p (n - 1)
abbrev pub bytes : (ℕ → Float) → ℕ → List ℕ
bytes p n = table (λ i. (level_of (p i)).byte) n

-- the larger of two floats
unfoldable pub larger : Float → Float → Float
larger a b = cond (lt b a) a b

-- the largest magnitude of these products, and positive zero if n is 0
unfoldable pub peak_of : (ℕ → Float) → ℕ → Float
peak_of p zero = plus_zero
peak_of p (suc n) = larger (peak_of p n) (level_of (p n)).magnitude

-- how many of these products are clipped
unfoldable pub clipped_of : (ℕ → Float) → ℕ → ℕ
clipped_of p zero = 0
clipped_of p (suc n) = clipped_of p n + (level_of (p n)).clipped

-- whether a scale is finite and above zero
unfoldable pub valid_scale : Float → Bool
valid_scale scale = lt plus_zero scale && lt scale (inf false)

-- the first index of a sample that is not a number, or the length if there is none
abbrev pub first_nan : List Float → ℕ
first_nan samples = first_where (λ i. is_nan (get_or samples i nan)) (length samples)

-- the refusals in order, each test beside its refusal
abbrev pub quantising_refusals : Float → List Float → List ℕ → List (Bool × Refusal)
quantising_refusals scale samples output =
    (differs (length samples) (length output), SamplesLength)
    ∷ (not (valid_scale scale), Scale)
    ∷ (ltb (first_nan samples) (length samples), NotANumber (first_nan samples))
    ∷ []

-- the answer, and the bytes that the output holds afterwards. A refusal writes nothing.
unfoldable pub quantised : Float → List Float → List ℕ → Result Summary Refusal × List ℕ
quantised scale samples output =
    let p = product scale samples in
    let n = length samples in
    refused_or (judge (quantising_refusals scale samples output)) (λ x. (Err x, output))
    (Ok (record { peak = peak_of p n; clipped = clipped_of p n }), bytes p n)
