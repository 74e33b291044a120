-- The message of a payload: its length, and that it is bits.
use mathlib.Core.Path.{◌≡◌, sym, ap, ◌∙◌}
use mathlib.Core.List.{List}
use Prim.Native.Nat.{ℕ, ◌+◌}
use lib.ListN.{length, length-append}
use Rattle.bits.specs.Claims.{Bits}
use Rattle.bits.proofs.BitsOf.{length-bits_of}
use Rattle.bits.proofs.Lists.{bits-append}
use Rattle.code.specs.declared.Code.{Code}
use Rattle.code.specs.Code.{divisor, start_bits}
use Rattle.crc.specs.Check.{check_of}
use Rattle.crc.proofs.Message.{length_check, bits_check}
use Rattle.encoder.specs.Encode.{message_of}

module _ (c : Code) (payload : List ℕ) where
  same_width : length (start_bits c) ≡ length (divisor c)
  same_width = length-bits_of c.r c.start ∙ sym (length-bits_of c.r c.polynomial)

  pub length-message : length (message_of c payload) ≡ length payload + c.r
  length-message =
      length-append payload (check_of (divisor c) (start_bits c) payload)
      ∙ ap (λ (n : ℕ). length payload + n) (length_check (divisor c) (start_bits c) payload same_width ∙ length-bits_of c.r c.polynomial)

  pub bits-message : Bits payload → Bits (message_of c payload)
  bits-message p = bits-append payload _ p (bits_check (divisor c) (start_bits c) payload same_width p)
