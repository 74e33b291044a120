-- A published check with a nonzero start through a whole description: CRC-16/IBM-3740, whose register starts at FFFF and whose check of the
-- string 123456789 is 29B1.
use mathlib.Core.Path.{◌≡◌, refl, sym, ap, ◌∙◌}
use mathlib.Core.Bool.{Bool, true, ◌&&◌, cond, and-eq-true_iff}
use mathlib.Core.List.{List, [], ◌∷◌, ◌++◌, map}
use Prim.Native.Nat.{ℕ, zero, suc, ◌≤◌, ◌<◌}
use native.Mathlib.Omega.{arith}
use borrow.Author.Tests.{ltb-true}
use lib.Dec.{ltb, eqb}
use lib.IntN.{nat_abs}
use lib.ListN.{length, get_or, replicate, get_or-map}
use Rattle.laws.specs.First.{first_where}
use Rattle.laws.specs.Table.{table}
use Rattle.laws.proofs.Table.{get_or-table}
use Rattle.refusal.specs.Judge.{judge, refused_or}
use Rattle.bits.specs.Bit.{bits_of, number}
use Rattle.bits.specs.Mask.{ones_below}
use Rattle.bits.specs.Packing.{packed, unpacked}
use Rattle.code.specs.declared.Code.{Code}
use Rattle.code.specs.Description.{describe_up_to, describe}
use Rattle.crc.specs.Check.{check_of}
use Rattle.transform.specs.Transform.{covers, parity, transformed}
use Rattle.placing.specs.Place.{placed}
use Rattle.values.specs.Values.{hard}
use Rattle.channel.specs.Channel.{channel_value, first_outside}
use Rattle.encoder.specs.Encode.{message_of, codeword, encoded_by, encoded}
use Rattle.decoder.specs.Decoder.{single, decoded_full, decoded_restarted}
use Rattle.decoder.proofs.Decoder.{spelt_out}
use Rattle.decoder_demands.specs.Noiseless.{Received}
use Rattle.decoder_demands.proofs.Noiseless.{noiseless_decoding}
use Rattle.std.specs.Prelude.{Ok}
use Rattle.flip_run.specs.Trials.{tally}

-- kind 4, N = 128, r = 16, the polynomial z^16 + z^12 + z^5 + 1, start FFFF, and the indices from 40 on
abbrev description : List ℕ
description =
    0x1A ∷ 0x00 ∷ 0x04 ∷ 0x00 ∷ 0x07 ∷ 0x10 ∷ 0x21 ∷ 0x10 ∷ 0xFF ∷ 0xFF
    ∷ 0x00 ∷ 0x00 ∷ 0x00 ∷ 0x00 ∷ 0x00 ∷ 0xFF ∷ 0xFF ∷ 0xFF ∷ 0xFF ∷ 0xFF ∷ 0xFF ∷ 0xFF ∷ 0xFF ∷ 0xFF ∷ 0xFF ∷ 0xFF ∷ []

abbrev code : Code
code = record { n = 7; r = 16; polynomial = 0x1021; start = 0xFFFF; k = 72 }

-- the string 123456789
abbrev digits : List ℕ
digits = 0x31 ∷ 0x32 ∷ 0x33 ∷ 0x34 ∷ 0x35 ∷ 0x36 ∷ 0x37 ∷ 0x38 ∷ 0x39 ∷ []

abbrev sent : List ℕ
sent = 0x57 ∷ 0x08 ∷ 0xF8 ∷ 0xE3 ∷ 0x57 ∷ 0xA2 ∷ 0x07 ∷ 0x2A ∷ 0x07 ∷ 0xA2 ∷ 0x07 ∷ 0xE6 ∷ 0x07 ∷ 0x08 ∷ 0xF8 ∷ 0x2F ∷ []

pub ibm_3740_code : describe description ≡ Ok code
unfolding describe_up_to judge refused_or ones_below
ibm_3740_code = refl

-- the message has the published check after the string
pub ibm_3740_message : message_of code (unpacked digits 72) ≡ unpacked digits 72 ++ bits_of 16 0x29B1
unfolding check_of unpacked table
ibm_3740_message = refl

-- and it is encoded, whatever bytes the output held
pub ibm_3740_encoded : (output : List ℕ) → length output ≡ 16 → encoded description digits output ≡ (Ok tt, sent)
unfolding judge refused_or table number ones_below packed unpacked describe_up_to check_of covers parity transformed placed codeword encoded_by encoded
ibm_3740_encoded output size = rw size

-- ---- received at strength 4, it decodes to the string on trial 1, by the noiseless clause

abbrev received : List ℕ
received = map (λ b. cond (eqb b 1) 0xFC 0x04) (unpacked sent 128)

values-inside : first_outside received ≡ 128
unfolding first_where channel_value unpacked table
values-inside = refl

signs : map (λ b. hard (channel_value b)) received ≡ unpacked sent 128
unfolding channel_value unpacked table
signs = refl

strengths : map (λ b. nat_abs (channel_value b)) received ≡ table (λ j. 4) 128
unfolding channel_value unpacked table
strengths = refl

abbrev all_below : List ℕ → Bool
all_below [] = true
all_below (x ∷ xs) = ltb x 256 && all_below xs

-- each byte is below 256, by a test of all of them
small : (xs : List ℕ) → all_below xs ≡ true → (m : ℕ) → get_or xs m 0 < 256
small [] e m = omega arith
small (x ∷ xs) e zero = ltb-true x 256 ((and-eq-true_iff (ltb x 256) (all_below xs)).0 e).0
small (x ∷ xs) e (suc m) = small xs ((and-eq-true_iff (ltb x 256) (all_below xs)).0 e).1 m

with_signs : Received 128 description digits received
unfolding channel_value
with_signs = record {
  bytes = small digits refl;
  buffer = replicate 16 0;
  codeword = sent;
  encodes = ibm_3740_encoded (replicate 16 0) refl;
  sign = λ j l. sym (get_or-map (λ b. hard (channel_value b)) received j 0) ∙ ap (λ (x : List ℕ). get_or x j 0) signs;
  strength = λ j l.
      omega (arith, sym (get_or-map (λ b. nat_abs (channel_value b)) received j 0) ∙ ap (λ (x : List ℕ). get_or x j 0) strengths ∙ get_or-table (λ j. 4) 128 j 0 l);
}

-- for every T that 14 allows and every output of nine bytes
pub ibm_3740_decoded : (T : ℕ) (output : List ℕ) → 1 ≤ T → T ≤ 89 → length output ≡ 9 → (decoded_full description received T output ≡ (Ok (tally 1 896), digits)) × (decoded_restarted description received T output ≡ (Ok (tally 1 896), digits))
unfolding unpacked table
ibm_3740_decoded T output least most size =
    noiseless_decoding description code digits received T output with_signs (record {
      described = ibm_3740_code;
      fine = (spelt_out (single T) code received output).0 (record { channel_size = refl; in_range = values-inside; allowed = (least, most); output_size = size });
    })
