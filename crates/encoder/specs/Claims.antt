-- Document 01, "Check and encoder": a payload and an output are well-formed if none of refusals 9 to 11 applies. Encode accepts exactly
-- these: `well_formed_exactly` of proofs/WellFormed.antt.
use Rattle.std.specs.Prelude.{◌≡◌, List, ℕ, ◌/◌, length}
use Rattle.bits.specs.Packing.{bytes_for, unused_bits}
use Rattle.code.specs.declared.Code.{Code}
use Rattle.code.specs.Code.{code_length}

-- none of the three refusals applies
pub record WellFormed (c : Code) (payload output : List ℕ) : Type 0 where
  -- not 9
  pub payload_size : length payload ≡ bytes_for c.k
  -- not 10
  pub unused_clear : unused_bits payload c.k ≡ 0
  -- not 11
  pub output_size : length output ≡ code_length c / 8
