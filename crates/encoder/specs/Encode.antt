-- Document 01, "Check and encoder": encode, with the refusals of a description, 9, 10 and 11 in order.
use Rattle.std.specs.Prelude.{Bool, List, [], ◌∷◌, ◌++◌, ℕ, ◌/◌, length, Result, Ok, Err}
use Rattle.refusal.specs.declared.Refusal.{Refusal}
use Rattle.refusal.specs.Judge.{differs, judge, refused_or}
use Rattle.bits.specs.Packing.{bytes_for, packed, unpacked, unused_bits}
use Rattle.code.specs.declared.Code.{Code}
use Rattle.code.specs.Code.{code_length, divisor, start_bits}
use Rattle.code.specs.Description.{mask_of, describe, on_description}
use Rattle.crc.specs.Check.{check_of}
use Rattle.transform.specs.Transform.{transformed}
use Rattle.placing.specs.Place.{placed}
use Rattle.refusal.specs.declared.Refusal.TheVariants.{CodewordLength, PayloadLength, UnusedBit}

-- payload, then check, highest coefficient first
abbrev pub message_of : Code → List ℕ → List ℕ
message_of c payload = payload ++ check_of (divisor c) (start_bits c) payload

-- the codeword x, packed: the message placed by the mask, then transformed
unfoldable pub codeword : List ℕ → Code → List ℕ → List ℕ
codeword mask c payload = packed (transformed c.n (placed mask (message_of c (unpacked payload c.k)) (code_length c)))

-- refusals 9 to 11, each test beside its refusal
abbrev pub encoding_refusals : Code → List ℕ → List ℕ → List (Bool × Refusal)
encoding_refusals c payload output =
    (differs (length payload) (bytes_for c.k), PayloadLength)
    ∷ (differs (unused_bits payload c.k) 0, UnusedBit)
    ∷ (differs (length output) (code_length c / 8), CodewordLength)
    ∷ []

-- encode under a code: the answer, and the bytes that the output holds afterwards. A refusal writes nothing.
unfoldable pub encoded_by : List ℕ → Code → List ℕ → List ℕ → Result Unit Refusal × List ℕ
encoded_by mask c payload output =
    refused_or (judge (encoding_refusals c payload output)) (λ x. (Err x, output)) (Ok tt, codeword mask c payload)

-- encode under a description: its refusals come first
unfoldable pub encoded : List ℕ → List ℕ → List ℕ → Result Unit Refusal × List ℕ
encoded d payload output = on_description (describe d) (λ x. (Err x, output)) (λ c. encoded_by (mask_of d) c payload output)
