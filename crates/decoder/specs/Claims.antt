-- What the theorems of this crate state besides: well-formed calls, spelt out.
use Rattle.std.specs.Prelude.{◌≡◌, List, ℕ, ◌+◌, ◌≤◌, length}
use Rattle.bits.specs.Packing.{bytes_for}
use Rattle.code.specs.declared.Code.{Code}
use Rattle.code.specs.Code.{code_length, information_count}
use Rattle.channel.specs.Channel.{first_outside}
use Rattle.decoder.specs.Decoder.{Decoder, single, sets, most_limit}

-- 26 and 14 do not apply
abbrev pub Allowed : Decoder → Code → Type 0
Allowed (single limit) c = (1 ≤ limit) × (limit ≤ information_count c + 1)
Allowed (sets w limit) c = (1 ≤ w) × (w ≤ 3) × (1 ≤ limit) × (limit ≤ most_limit w c)

-- `WellFormed.fine`, test by test: `spelt_out` of proofs/Decoder.antt
pub record SpeltOut (p : Decoder) (c : Code) (channel output : List ℕ) : Type 0 where
  -- not 12
  pub channel_size : length channel ≡ code_length c
  -- not 13
  pub in_range : first_outside channel ≡ length channel
  -- not 26 and not 14
  pub allowed : Allowed p c
  -- not 15
  pub output_size : length output ≡ bytes_for c.k
