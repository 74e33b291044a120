-- What only contracts below the public operations cite. Nothing here need be believed.
use Rattle.std.specs.Prelude.{◌≡◌, List, ℕ, ◌*◌, ◌^◌, ◌≤◌, ◌<◌, length, Result}
use Rattle.arrays.specs.Sizes.{largest_n}
use Rattle.bits.specs.Claims.{Bits}
use Rattle.bits.specs.Packing.{unpacked}
use Rattle.code.specs.declared.Code.{Code}
use Rattle.code.specs.Code.{code_length, information_count}
use Rattle.placing.specs.Place.{placed}
use Rattle.encoder.specs.Encode.{message_of}
use Rattle.encoder.specs.Claims.{WellFormed}
use Rattle.refusal.specs.declared.Refusal.{Refusal}

-- what encode answers
abbrev pub Encoded : Type 0
Encoded = Result Unit Refusal

-- a payload of k bits, and room for them and r check bits
pub record MessagePre (c : Code) (payload message : List ℕ) : Type 0 where
  pub r_least : 1 ≤ c.r
  pub r_most : c.r ≤ 16
  pub start_fits : c.start < 2 ^ c.r
  pub payload_size : c.k ≤ 8 * length payload
  pub message_size : length message ≡ information_count c

-- a payload for a code, and room for its message and its codeword. All that the room holds are bits.
pub record PayloadPre (c : Code) (payload room output : List ℕ) : Type 0 where
  pub well_formed : WellFormed c payload output
  pub room_size : code_length c ≤ length room
  pub room_bits : Bits room

-- the message of a payload, placed by the mask
abbrev pub placed_message : List ℕ → Code → List ℕ → List ℕ
placed_message mask c payload = placed mask (message_of c (unpacked payload c.k)) (code_length c)

-- 2^n packed bits, and room for them
pub record TransformPre (size n : ℕ) (room output : List ℕ) : Type 0 where
  pub n_least : 3 ≤ n
  pub n_most : n ≤ largest_n
  pub room_size : length room ≡ size
  pub output_size : 8 * length output ≡ 2 ^ n
