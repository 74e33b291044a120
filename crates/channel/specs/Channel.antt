-- Document 01, "A decoding pass": channel values are bytes in two's complement, −31..31, in quarter units; refusals 12 and 13 of every
-- operation that takes them.
use Rattle.std.specs.Prelude.{Bool, cond, List, [], ◌∷◌, map, ℕ, suc, ◌-◌, min, ltb, ℤ, pos, negsuc, neg_ℤ, nat_abs, ◌-ℤ◌, length, get_or}
use Rattle.laws.specs.First.{first_where}
use Rattle.refusal.specs.declared.Refusal.{Refusal}
use Rattle.refusal.specs.Judge.{differs}
use Rattle.code.specs.declared.Code.{Code}
use Rattle.code.specs.Code.{code_length}
use Rattle.refusal.specs.declared.Refusal.TheVariants.{ChannelLength, ChannelValue}

-- a byte in two's complement
unfoldable pub channel_value : ℕ → ℤ
channel_value b = cond (ltb b 128) (pos b) (pos b -ℤ pos 256)

-- the values of a channel
abbrev pub channel_values : List ℕ → List ℤ
channel_values channel = map channel_value channel

-- a whole number as a byte in two's complement
abbrev pub byte_of : ℤ → ℕ
byte_of (pos n) = n
byte_of (negsuc n) = 256 - suc n

-- a whole number, clipped to −31..31
abbrev pub clip : ℤ → ℤ
clip (pos n) = pos (min 31 n)
clip (negsuc n) = neg_ℤ (pos (min 31 (suc n)))

-- the first index of a value outside −31..31, or the channel's length if there is none
abbrev pub first_outside : List ℕ → ℕ
first_outside channel = first_where (λ i. ltb 31 (nat_abs (channel_value (get_or channel i 0)))) (length channel)

-- 12 the length is not N; 13 a value outside −31..31, with its first index
abbrev pub channel_refusals : Code → List ℕ → List (Bool × Refusal)
channel_refusals c channel =
    (differs (length channel) (code_length c), ChannelLength)
    ∷ (ltb (first_outside channel) (length channel), ChannelValue (first_outside channel))
    ∷ []
