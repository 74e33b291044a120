-- The starred rows of document 01, "Vectors at the edges", on both decoders, by computation.
use mathlib.Core.Path.{◌≡◌, refl}
use mathlib.Core.List.{List, [], ◌∷◌}
use Prim.Native.Nat.{ℕ}
use Rattle.laws.specs.First.{first_where}
use Rattle.laws.specs.Table.{table}
use Rattle.laws.specs.Insert.{insert_by, sort_by}
use Rattle.refusal.specs.Judge.{judge, refused_or}
use Rattle.bits.specs.Bit.{number}
use Rattle.bits.specs.Mask.{ones_below}
use Rattle.bits.specs.Packing.{packed}
use Rattle.code.specs.Description.{mask_of, describe_up_to}
use Rattle.crc.specs.Check.{check_of}
use Rattle.transform.specs.Transform.{covers, parity, transformed, xors}
use Rattle.placing.specs.Place.{taken}
use Rattle.values.specs.Values.{f, g, left_values, right_values}
use Rattle.channel.specs.Channel.{channel_value, channel_values}
use Rattle.pass_tree.specs.Node.{node}
use Rattle.flip_order.specs.Order.{information}
use Rattle.flip_run.specs.Trials.{flip_order, run, tally}
use Rattle.decoder.specs.Decoder.{decoded_under, decoded_as, decoded_full, decoded_restarted}
use Rattle.vectors.proofs.Descriptions.{D, starred_code, starred_v}
use Rattle.std.specs.Prelude.{Err, Ok, Result}
use Rattle.flip_run.specs.declared.DecodingError.TheVariants.{NonePassed, Refused}
use Rattle.refusal.specs.declared.Refusal.TheVariants.{ChannelValue, TrialLimit}
use Rattle.flip_run.specs.declared.DecodingError.{DecodingError}
use Rattle.flip_run.specs.declared.Tally.{Tally}

-- 4, −4, 4, −4, −4, 4, −4, 4
abbrev pub noiseless_a0 : List ℕ
noiseless_a0 = 0x04 ∷ 0xFC ∷ 0x04 ∷ 0xFC ∷ 0xFC ∷ 0x04 ∷ 0xFC ∷ 0x04 ∷ []

-- eight values, zero but for the one at index 7
abbrev zeros_then : ℕ → List ℕ
zeros_then byte = 0 ∷ 0 ∷ 0 ∷ 0 ∷ 0 ∷ 0 ∷ 0 ∷ byte ∷ []

-- The rows under D, for a decoder (channel, T, output) that takes `steps` steps for two trials on V. In turn: the payload `A0`; V with
-- T = 1 and T = 2; eight zeros; T of 0 or 6, and 5; value 31 at index 7, and 32 and −32 there.
abbrev Rows : (List ℕ → ℕ → List ℕ → Result Tally DecodingError × List ℕ) → ℕ → List ℕ → Type 0
Rows decoded steps output =
    (decoded noiseless_a0 1 output ≡ (Ok (tally 1 24), 0xA0 ∷ []))
    × (decoded (starred_v 2) 1 output ≡ (Err (NonePassed (tally 1 24)), output))
    × (decoded (starred_v 2) 2 output ≡ (Ok (tally 2 steps), 0x00 ∷ []))
    × (decoded (zeros_then 0x00) 1 output ≡ (Ok (tally 1 24), 0x00 ∷ []))
    × (decoded (starred_v 2) 0 output ≡ (Err (Refused TrialLimit), output))
    × (decoded (starred_v 2) 6 output ≡ (Err (Refused TrialLimit), output))
    × (decoded (starred_v 2) 5 output ≡ (Ok (tally 2 steps), 0x00 ∷ []))
    × (decoded (zeros_then 0x1F) 1 output ≡ (Ok (tally 1 24), 0x00 ∷ []))
    × (decoded (zeros_then 0x20) 1 output ≡ (Err (Refused (ChannelValue 7)), output))
    × (decoded (zeros_then 0xE0) 1 output ≡ (Err (Refused (ChannelValue 7)), output))

-- whatever byte the output held, with the order of flipped indices on V
abbrev pub StarredDecoding : ℕ → Type 0
StarredDecoding byte =
    (flip_order (mask_of D) (starred_code 3) (channel_values (starred_v 2)) ≡ 5 ∷ 3 ∷ 6 ∷ 7 ∷ []) × Rows (decoded_full D) 48 (byte ∷ []) × Rows (decoded_restarted D) 32 (byte ∷ [])

pub starred_decoding : (byte : ℕ) → StarredDecoding byte
unfolding judge refused_or table number ones_below packed describe_up_to check_of covers parity transformed xors taken channel_value f g left_values right_values first_where node information insert_by sort_by run decoded_under decoded_as
starred_decoding byte = (refl, (refl, refl, refl, refl, refl, refl, refl, refl, refl, refl), (refl, refl, refl, refl, refl, refl, refl, refl, refl, refl))
