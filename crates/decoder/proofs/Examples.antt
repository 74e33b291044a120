-- Examples by computation, on frames of eight values: single flips, and document 02, request 2.2.
use mathlib.Core.Path.{◌≡◌, refl}
use mathlib.Core.List.{List, [], ◌∷◌, map}
use Prim.Native.Nat.{ℕ}
use lib.IntN.{ℤ}
use Rattle.laws.specs.First.{first_where}
use Rattle.laws.specs.Table.{table}
use Rattle.laws.specs.Insert.{insert_by, sort_by}
use Rattle.refusal.specs.Judge.{judge, refused_or}
use Rattle.bits.specs.Bit.{number}
use Rattle.bits.specs.Mask.{ones_below}
use Rattle.bits.specs.Packing.{packed}
use Rattle.code.specs.declared.Code.{Code}
use Rattle.code.specs.Description.{mask_of, describe_up_to, describe}
use Rattle.crc.specs.Check.{check_of}
use Rattle.transform.specs.Transform.{covers, parity, transformed, xors}
use Rattle.placing.specs.Place.{taken}
use Rattle.values.specs.Values.{f, g, left_values, right_values}
use Rattle.channel.specs.Channel.{channel_value, channel_values}
use Rattle.pass_tree.specs.Node.{node}
use Rattle.flip_order.specs.Order.{magnitude_at, information}
use Rattle.flip_trial.specs.declared.Restart.TheVariants.{Root, AfterFlip}
use Rattle.flip_trial.specs.Trial.{first_trial, later_trial}
use Rattle.flip_run.specs.Trials.{flip_order, run, tally}
use Rattle.decoder.specs.Candidate.{metric_of, doubtful, extensions, insert_each}
use Rattle.decoder.specs.Tried.{tried, flip_sets}
use Rattle.decoder.specs.Decoder.{decoded_under, decoded_as, decoded_full, decoded_half, decoded_restarted, sets_full, sets_restarted}
use Rattle.std.specs.Prelude.{Err, Ok}
use Rattle.flip_run.specs.declared.DecodingError.TheVariants.{NonePassed, Refused}
use Rattle.refusal.specs.declared.Refusal.TheVariants.{ChannelValue, FlipCount, OutputLength, TrialLimit}

-- Document 01's D with r = 3 and the polynomial z^3 + z + 1, so k = 1. Its information indices are 3, 5, 6 and 7.
abbrev pub wide_d : List ℕ
wide_d = 0x09 ∷ 0x00 ∷ 0x01 ∷ 0x00 ∷ 0x03 ∷ 0x03 ∷ 0x03 ∷ 0x00 ∷ 0xE8 ∷ []

abbrev pub wide_code : Code
wide_code = record { n = 3; r = 3; polynomial = 3; start = 0; k = 1 }

-- document 01's V: −1, 3, 2, 2, −2, −2, 3, 2
abbrev pub vector : List ℕ
vector = 0xFF ∷ 0x03 ∷ 0x02 ∷ 0x02 ∷ 0xFE ∷ 0xFE ∷ 0x03 ∷ 0x02 ∷ []

-- −2, 2, −1, 0, 0, 0, −1, 1
abbrev pub pair_v : List ℕ
pair_v = 0xFE ∷ 0x02 ∷ 0xFF ∷ 0x00 ∷ 0x00 ∷ 0x00 ∷ 0xFF ∷ 0x01 ∷ []

-- −6, −2, −2, 4, 3, −2, 5, 4
abbrev pub equal_v : List ℕ
equal_v = 0xFA ∷ 0xFE ∷ 0xFE ∷ 0x04 ∷ 0x03 ∷ 0xFE ∷ 0x05 ∷ 0x04 ∷ []

-- 3, 3, 7, −8, 4, 7, 9, −6
abbrev pub longer_v : List ℕ
longer_v = 0x03 ∷ 0x03 ∷ 0x07 ∷ 0xF8 ∷ 0x04 ∷ 0x07 ∷ 0x09 ∷ 0xFA ∷ []

-- 8, 7, 0, 6, 9, −9, −9, −3
abbrev pub second_v : List ℕ
second_v = 0x08 ∷ 0x07 ∷ 0x00 ∷ 0x06 ∷ 0x09 ∷ 0xF7 ∷ 0xF7 ∷ 0xFD ∷ []

-- 4, 6, −5, −3, −4, 3, 1, −5
abbrev pub used_up_v : List ℕ
used_up_v = 0x04 ∷ 0x06 ∷ 0xFB ∷ 0xFD ∷ 0xFC ∷ 0x03 ∷ 0x01 ∷ 0xFB ∷ []

-- 0, 3, 1, −1, −2, −2, 3, −1
abbrev pub three_v : List ℕ
three_v = 0x00 ∷ 0x03 ∷ 0x01 ∷ 0xFF ∷ 0xFE ∷ 0xFE ∷ 0x03 ∷ 0xFF ∷ []

-- 8, 11, 0, 6, 0, −1, −8, −6
abbrev pub twenty_v : List ℕ
twenty_v = 0x08 ∷ 0x0B ∷ 0x00 ∷ 0x06 ∷ 0x00 ∷ 0xFF ∷ 0xF8 ∷ 0xFA ∷ []

-- the sets of the trials after the first, up to T, if none passes, under wideD
abbrev pub sets_on : List ℕ → ℕ → ℕ → List (List ℕ)
sets_on channel w T = flip_sets w T (mask_of wide_d) wide_code (channel_values channel)

-- the bits of the trial that flips `is`, under wideD, and its leaf values; of trial 1 if `is` is empty
abbrev pub bits_on : List ℕ → List ℕ → List ℕ
bits_on channel [] = (first_trial (mask_of wide_d) wide_code (channel_values channel)).bits
bits_on channel (i ∷ is) = (later_trial AfterFlip (mask_of wide_d) wide_code (channel_values channel) (i ∷ is)).bits

abbrev pub leaves_on : List ℕ → List ℕ → List ℤ
leaves_on channel is = (later_trial Root (mask_of wide_d) wide_code (channel_values channel) is).leaves

-- the metric of `set`, by the leaf values of the trial that flips `is`
abbrev pub metric_on : List ℕ → List ℕ → List ℕ → ℕ
metric_on channel is set = metric_of (mask_of wide_d) (leaves_on channel is) set

-- all sets of one or two information indices, in the order in which `used_up_v` has them tried
abbrev pub ten : List (List ℕ)
ten = (3 ∷ []) ∷ (3 ∷ 5 ∷ []) ∷ (3 ∷ 6 ∷ []) ∷ (5 ∷ []) ∷ (6 ∷ []) ∷ (5 ∷ 6 ∷ []) ∷ (5 ∷ 7 ∷ []) ∷ (7 ∷ []) ∷ (3 ∷ 7 ∷ []) ∷ (6 ∷ 7 ∷ []) ∷ []

-- ---- examples

-- whatever byte the output held
pub record SetExamples (byte : ℕ) : Type 0 where
  -- the description is accepted
  pub described : describe wide_d ≡ Ok wide_code
  -- single flips on V: trial 2 flips 5 and is accepted. Half restart resumes at 4 and restarted decoding at 6.
  pub by_single_flips :
      (flip_order (mask_of wide_d) wide_code (channel_values vector) ≡ 5 ∷ 3 ∷ 6 ∷ 7 ∷ [])
      × (decoded_full wide_d vector 5 (byte ∷ []) ≡ (Ok (tally 2 48), 0x00 ∷ []))
      × (decoded_half wide_d vector 5 (byte ∷ []) ≡ (Ok (tally 2 36), 0x00 ∷ []))
      × (decoded_restarted wide_d vector 5 (byte ∷ []) ≡ (Ok (tally 2 32), 0x00 ∷ []))
      × (decoded_full wide_d vector 1 (byte ∷ []) ≡ (Err (NonePassed (tally 1 24)), byte ∷ []))
      × (decoded_full wide_d vector 6 (byte ∷ []) ≡ (Err (Refused TrialLimit), byte ∷ []))
      × (decoded_restarted wide_d vector 2 (byte ∷ []) ≡ (Ok (tally 2 32), 0x00 ∷ []))
  -- no single flip is accepted: all four are tried
  pub all_fail :
      (flip_order (mask_of wide_d) wide_code (channel_values pair_v) ≡ 3 ∷ 5 ∷ 6 ∷ 7 ∷ [])
      × (decoded_full wide_d pair_v 5 (byte ∷ []) ≡ (Err (NonePassed (tally 5 120)), byte ∷ []))
  -- w = 1: the sixes reorder single flips. On V the magnitudes at 3, 5, 6 and 7 are 3, 2, 3 and 11, so the old decoder flips 5 first. The
  -- metrics are 3 + 6, 2 + 12, 3 + 18 and 11 + 24, so 3 comes first,
  -- and 5, which is accepted, on trial 3.
  pub by_metric :
      (map (λ i. metric_on vector [] (i ∷ [])) (3 ∷ 5 ∷ 6 ∷ 7 ∷ []) ≡ 9 ∷ 14 ∷ 21 ∷ 35 ∷ [])
      × (sets_on vector 1 5 ≡ (3 ∷ []) ∷ (5 ∷ []) ∷ (6 ∷ []) ∷ (7 ∷ []) ∷ [])
      × (sets_full wide_d vector 1 5 (byte ∷ []) ≡ (Ok (tally 3 72), 0x00 ∷ []))
      × (sets_restarted wide_d vector 1 5 (byte ∷ []) ≡ (Ok (tally 3 43), 0x00 ∷ []))
  -- A pair's metric comes from the trial that generated it: [3, 5] has 1 + 1 + 12 from the trial of [3], and comes before [5] with 3 + 12.
  -- From trial 1 it would have 1 + 3 + 12, and come after it. Trial 1 decides 0 at index 5, the trial of [3] decides 1, and that of [3, 5]
  -- takes the opposite of 1. It is accepted on trial 3; no single flip is accepted.
  pub by_own_trial :
      (metric_on pair_v (3 ∷ []) (3 ∷ 5 ∷ []) ≡ 14)
      × (metric_on pair_v [] (5 ∷ []) ≡ 15)
      × (metric_on pair_v [] (3 ∷ 5 ∷ []) ≡ 16)
      × (sets_on pair_v 2 4 ≡ (3 ∷ []) ∷ (3 ∷ 5 ∷ []) ∷ (5 ∷ []) ∷ [])
      × (bits_on pair_v [] ≡ 0 ∷ 0 ∷ 0 ∷ 0 ∷ 0 ∷ 0 ∷ 1 ∷ 0 ∷ [])
      × (bits_on pair_v (3 ∷ []) ≡ 0 ∷ 0 ∷ 0 ∷ 1 ∷ 0 ∷ 1 ∷ 1 ∷ 0 ∷ [])
      × (bits_on pair_v (3 ∷ 5 ∷ []) ≡ 0 ∷ 0 ∷ 0 ∷ 1 ∷ 0 ∷ 0 ∷ 1 ∷ 1 ∷ [])
      × (sets_full wide_d pair_v 2 4 (byte ∷ []) ≡ (Ok (tally 3 72), 0x80 ∷ []))
      × (sets_restarted wide_d pair_v 2 4 (byte ∷ []) ≡ (Ok (tally 3 46), 0x80 ∷ []))
      × (sets_restarted wide_d pair_v 1 5 (byte ∷ []) ≡ (Err (NonePassed (tally 5 50)), byte ∷ []))
  -- Of equal metrics, 1 + 0 + 18 and 7 + 12, [3, 6] comes before [5]: lists are compared from their first entry. It is accepted on trial 3.
  pub by_first_entry :
      (metric_on equal_v (3 ∷ []) (3 ∷ 6 ∷ []) ≡ 19)
      × (metric_on equal_v [] (5 ∷ []) ≡ 19)
      × (sets_on equal_v 2 4 ≡ (3 ∷ []) ∷ (3 ∷ 6 ∷ []) ∷ (5 ∷ []) ∷ [])
      × (sets_full wide_d equal_v 2 4 (byte ∷ []) ≡ (Ok (tally 3 72), 0x80 ∷ []))
      × (sets_restarted wide_d equal_v 2 4 (byte ∷ []) ≡ (Ok (tally 3 46), 0x80 ∷ []))
  -- A longer list does not come first: of equal metrics, 19 + 6 and 3 + 4 + 18, [3] comes before [5, 6]. This is accepted on trial 4.
  pub not_by_length :
      (metric_on longer_v [] (3 ∷ []) ≡ 25)
      × (metric_on longer_v (5 ∷ []) (5 ∷ 6 ∷ []) ≡ 25)
      × (sets_on longer_v 2 4 ≡ (5 ∷ []) ∷ (3 ∷ []) ∷ (5 ∷ 6 ∷ []) ∷ [])
      × (sets_full wide_d longer_v 2 12 (byte ∷ []) ≡ (Ok (tally 4 96), 0x00 ∷ []))
      × (sets_restarted wide_d longer_v 2 12 (byte ∷ []) ≡ (Ok (tally 4 51), 0x00 ∷ []))
  -- Of equal metrics, 2 + 11 + 12 and 2 + 5 + 18, and equal first entries, [3, 5] comes before [3, 6]. It is accepted on trial 4.
  pub by_second_entry :
      (metric_on second_v (3 ∷ []) (3 ∷ 5 ∷ []) ≡ 25)
      × (metric_on second_v (3 ∷ []) (3 ∷ 6 ∷ []) ≡ 25)
      × (sets_on second_v 2 5 ≡ (3 ∷ []) ∷ (5 ∷ []) ∷ (3 ∷ 5 ∷ []) ∷ (3 ∷ 6 ∷ []) ∷ [])
      × (sets_full wide_d second_v 2 12 (byte ∷ []) ≡ (Ok (tally 4 96), 0x00 ∷ []))
      × (sets_restarted wide_d second_v 2 12 (byte ∷ []) ≡ (Ok (tally 4 54), 0x00 ∷ []))
  -- w = 3: a set of three is accepted, on trial 5. It has 0 + 2 + 0 + 18 from the trial of [3, 5].
  pub of_three :
      (metric_on three_v (3 ∷ 5 ∷ []) (3 ∷ 5 ∷ 6 ∷ []) ≡ 20)
      × (sets_on three_v 3 5 ≡ (3 ∷ []) ∷ (3 ∷ 5 ∷ []) ∷ (5 ∷ []) ∷ (3 ∷ 5 ∷ 6 ∷ []) ∷ [])
      × (sets_full wide_d three_v 3 5 (byte ∷ []) ≡ (Ok (tally 5 120), 0x80 ∷ []))
      × (sets_restarted wide_d three_v 3 5 (byte ∷ []) ≡ (Ok (tally 5 65), 0x80 ∷ []))
  -- A magnitude of 20 has its six: [5] has 20 + 12, and comes after [3, 5] with 27. With 20 + 6 it would come before it.
  pub at_20 :
      (magnitude_at (leaves_on twenty_v []) 5 ≡ 20)
      × (metric_on twenty_v [] (5 ∷ []) ≡ 32)
      × (metric_on twenty_v (3 ∷ []) (3 ∷ 5 ∷ []) ≡ 27)
      × (sets_on twenty_v 2 4 ≡ (3 ∷ []) ∷ (3 ∷ 5 ∷ []) ∷ (5 ∷ []) ∷ [])
      × (sets_full wide_d twenty_v 2 4 (byte ∷ []) ≡ (Ok (tally 3 72), 0x00 ∷ []))
      × (sets_restarted wide_d twenty_v 2 4 (byte ∷ []) ≡ (Ok (tally 3 46), 0x00 ∷ []))
  -- All ten sets are used up before T: 16 carries the 11 trials made. A magnitude of 21 has no six: [7] has 21 + 18.
  pub used_up :
      (magnitude_at (leaves_on used_up_v []) 7 ≡ 21)
      × (metric_on used_up_v [] (7 ∷ []) ≡ 39)
      × (sets_on used_up_v 2 512 ≡ ten)
      × (sets_restarted wide_d used_up_v 2 12 (byte ∷ []) ≡ (Err (NonePassed (tally 11 106)), byte ∷ []))
      × (sets_full wide_d used_up_v 2 512 (byte ∷ []) ≡ (Err (NonePassed (tally 11 264)), byte ∷ []))
      × (sets_restarted wide_d used_up_v 2 512 (byte ∷ []) ≡ (Err (NonePassed (tally 11 106)), byte ∷ []))
  -- 26 comes after 13 and before 14. T is at most K + 1 = 5 for w = 1, and at most 512 above.
  pub refusals :
      (sets_restarted wide_d pair_v 0 0 (byte ∷ []) ≡ (Err (Refused FlipCount), byte ∷ []))
      × (sets_restarted wide_d pair_v 4 0 (byte ∷ []) ≡ (Err (Refused FlipCount), byte ∷ []))
      × (sets_restarted wide_d (0x20 ∷ 0 ∷ 0 ∷ 0 ∷ 0 ∷ 0 ∷ 0 ∷ 0 ∷ []) 4 0 (byte ∷ []) ≡ (Err (Refused (ChannelValue 0)), byte ∷ []))
      × (sets_restarted wide_d pair_v 1 6 (byte ∷ []) ≡ (Err (Refused TrialLimit), byte ∷ []))
      × (sets_restarted wide_d pair_v 2 0 (byte ∷ []) ≡ (Err (Refused TrialLimit), byte ∷ []))
      × (sets_restarted wide_d pair_v 2 513 (byte ∷ []) ≡ (Err (Refused TrialLimit), byte ∷ []))
      × (sets_restarted wide_d pair_v 2 512 [] ≡ (Err (Refused OutputLength), []))
      × (sets_restarted wide_d three_v 3 513 (byte ∷ []) ≡ (Err (Refused TrialLimit), byte ∷ []))
      × (sets_restarted wide_d three_v 3 512 (byte ∷ []) ≡ (Ok (tally 5 65), 0x80 ∷ []))

pub set_examples : (byte : ℕ) → SetExamples byte
unfolding judge refused_or table number ones_below packed describe_up_to check_of covers parity transformed xors taken channel_value f g left_values right_values first_where node information insert_by sort_by run doubtful extensions insert_each tried decoded_under decoded_as
set_examples byte = record {
  described = refl;
  by_single_flips = (refl, refl, refl, refl, refl, refl, refl);
  all_fail = (refl, refl);
  by_metric = (refl, refl, refl, refl);
  by_own_trial = (refl, refl, refl, refl, refl, refl, refl, refl, refl, refl);
  by_first_entry = (refl, refl, refl, refl, refl);
  not_by_length = (refl, refl, refl, refl, refl);
  by_second_entry = (refl, refl, refl, refl, refl);
  of_three = (refl, refl, refl, refl);
  at_20 = (refl, refl, refl, refl, refl, refl);
  used_up = (refl, refl, refl, refl, refl, refl);
  refusals = (refl, refl, refl, refl, refl, refl, refl, refl, refl);
}
