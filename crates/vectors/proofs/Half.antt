-- Document 02, request 2.4: frames whose lowest flipped indices are N/2 − 1, N/2 and N/2 + 1, by computation.
use mathlib.Core.Path.{◌≡◌, refl}
use mathlib.Core.List.{List, [], ◌∷◌}
use Prim.Native.Nat.{ℕ}
use Rattle.laws.specs.First.{first_where}
use Rattle.laws.specs.Table.{table}
use Rattle.laws.specs.Insert.{insert_by, sort_by}
use Rattle.refusal.specs.Judge.{judge, refused_or}
use Rattle.bits.specs.Bit.{number}
use Rattle.bits.specs.Mask.{ones_below}
use Rattle.bits.specs.Packing.{packed}
use Rattle.code.specs.declared.Code.{Code}
use Rattle.code.specs.Description.{mask_of, describe_up_to, describe}
use Rattle.crc.specs.Check.{check_of}
use Rattle.transform.specs.Transform.{covers, parity, transformed, xors}
use Rattle.placing.specs.Place.{taken}
use Rattle.values.specs.Values.{f, g, left_values, right_values}
use Rattle.channel.specs.Channel.{channel_value, channel_values}
use Rattle.pass_tree.specs.Node.{node}
use Rattle.flip_order.specs.Order.{information}
use Rattle.flip_run.specs.Trials.{flip_order, run, tally}
use Rattle.decoder.specs.Candidate.{doubtful, extensions, insert_each}
use Rattle.decoder.specs.Tried.{tried, flip_sets}
use Rattle.decoder.specs.Decoder.{decoded_under, decoded_as, decoded_full, decoded_half, decoded_restarted, sets_full, sets_half, sets_restarted}
use Rattle.vectors.proofs.Descriptions.{starred_d, starred_code}
use Rattle.std.specs.Prelude.{Err, Ok}
use Rattle.flip_run.specs.declared.DecodingError.TheVariants.{NonePassed, Refused}
use Rattle.refusal.specs.declared.Refusal.TheVariants.{FlipCount, TrialLimit}

-- information indices 3 to 7 of eight
abbrev middle_d : List ℕ
middle_d = starred_d 0xF8

abbrev middle_code : Code
middle_code = starred_code 4

-- −3, 4, 3, −5, 1, −2, 0, −4
abbrev middle_v : List ℕ
middle_v = 0xFD ∷ 0x04 ∷ 0x03 ∷ 0xFB ∷ 0x01 ∷ 0xFE ∷ 0x00 ∷ 0xFC ∷ []

-- −8, −4, −1, −9, 2, 5, −4, 7
abbrev middle_pair_v : List ℕ
middle_pair_v = 0xF8 ∷ 0xFC ∷ 0xFF ∷ 0xF7 ∷ 0x02 ∷ 0x05 ∷ 0xFC ∷ 0x07 ∷ []

-- whatever byte the output held
pub record HalfExamples (byte : ℕ) : Type 0 where
  pub described : describe middle_d ≡ Ok middle_code
  -- trials 2, 3 and 4 flip 3, 4 and 5. Half restart takes 24 + 24 + 12 + 12 steps.
  pub by_single_flips :
      (flip_order (mask_of middle_d) middle_code (channel_values middle_v) ≡ 3 ∷ 4 ∷ 5 ∷ 6 ∷ 7 ∷ [])
      × (decoded_full middle_d middle_v 4 (byte ∷ []) ≡ (Ok (tally 4 96), 0x10 ∷ []))
      × (decoded_half middle_d middle_v 4 (byte ∷ []) ≡ (Ok (tally 4 72), 0x10 ∷ []))
      × (decoded_restarted middle_d middle_v 4 (byte ∷ []) ≡ (Ok (tally 4 55), 0x10 ∷ []))
      × (decoded_half middle_d middle_v 2 (byte ∷ []) ≡ (Err (NonePassed (tally 2 48)), byte ∷ []))
      × (decoded_half middle_d middle_v 3 (byte ∷ []) ≡ (Err (NonePassed (tally 3 60)), byte ∷ []))
      × (decoded_half middle_d middle_v 7 (byte ∷ []) ≡ (Err (Refused TrialLimit), byte ∷ []))
  -- of the sets that are tried, those with the lowest index 4 or 5 take 12 steps each
  pub by_sets :
      (flip_sets 2 7 (mask_of middle_d) middle_code (channel_values middle_pair_v) ≡ (4 ∷ []) ∷ (3 ∷ []) ∷ (3 ∷ 4 ∷ []) ∷ (4 ∷ 5 ∷ []) ∷ (5 ∷ []) ∷ (4 ∷ 6 ∷ []) ∷ [])
      × (sets_full middle_d middle_pair_v 2 7 (byte ∷ []) ≡ (Ok (tally 7 168), 0x90 ∷ []))
      × (sets_half middle_d middle_pair_v 2 7 (byte ∷ []) ≡ (Ok (tally 7 120), 0x90 ∷ []))
      × (sets_restarted middle_d middle_pair_v 2 7 (byte ∷ []) ≡ (Ok (tally 7 89), 0x90 ∷ []))
      × (sets_half middle_d middle_pair_v 2 6 (byte ∷ []) ≡ (Err (NonePassed (tally 6 108)), byte ∷ []))
      × (sets_half middle_d middle_pair_v 4 7 (byte ∷ []) ≡ (Err (Refused FlipCount), byte ∷ []))

pub half_examples : (byte : ℕ) → HalfExamples byte
unfolding judge refused_or table number ones_below packed describe_up_to check_of covers parity transformed xors taken channel_value f g left_values right_values first_where node information insert_by sort_by run doubtful extensions insert_each tried decoded_under decoded_as
half_examples byte = record {
  described = refl;
  by_single_flips = (refl, refl, refl, refl, refl, refl, refl);
  by_sets = (refl, refl, refl, refl, refl, refl);
}
