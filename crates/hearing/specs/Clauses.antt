-- What only contracts below the public operations cite. Nothing here need be believed.
use Rattle.std.specs.Prelude.{cond, List, ℕ, ◌≤◌, ◌<◌, eqb, nat_abs, ◌+ℤ◌, length, get_or}
use Rattle.code.specs.declared.Code.{Code}
use Rattle.code.specs.Code.{code_length}
use Rattle.channel.specs.Channel.{channel_value, byte_of, clip}
use Rattle.hearing.specs.Hearing.{Hearing}

-- the sum of two values, clipped to −31..31
abbrev pub clipped_sum : ℕ → ℕ → ℕ
clipped_sum a b = byte_of (clip (channel_value a +ℤ channel_value b))

-- the index from which on all values are zero: 0 if the count is 0, otherwise N
abbrev pub zero_from : Code → ℕ → ℕ
zero_from c count = cond (eqb count 0) 0 (code_length c)

-- values to which a vector may be added: at least as many as it has, and all lie in −31..31
pub record AddPre (values channel : List ℕ) : Type 0 where
  pub room : length channel ≤ length values
  pub values_small : (i : ℕ) → i < length channel → nat_abs (channel_value (get_or values i 0)) ≤ 31
  pub channel_small : (i : ℕ) → i < length channel → nat_abs (channel_value (get_or channel i 0)) ≤ 31

-- a hearing by its count and its array of values
abbrev pub hearing_by : ℕ → List ℕ → Hearing
hearing_by count values = record { values = values; count = count }
