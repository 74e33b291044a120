-- Document 02, request 2.2, "Where no untried set is left": frames of eight values whose sets are used up, by sets of at most two and of at most three.
use mathlib.Core.Path.{◌≡◌, refl, subst}
use mathlib.Core.Bool.{false}
use mathlib.Core.Logic.{⊎_elim}
use mathlib.Core.List.{List, [], ◌∷◌, Memᴰ}
use Prim.Native.Nat.{ℕ, ◌+◌, ◌≤◌}
use native.Mathlib.Omega.{arith}
use lib.ListN.{length, length-map}
use Rattle.laws.specs.First.{first_where}
use Rattle.laws.specs.Insert.{insert_by}
use Rattle.laws.specs.Table.{table}
use Rattle.refusal.specs.Judge.{judge, refused_or}
use Rattle.bits.specs.Bit.{number}
use Rattle.bits.specs.Mask.{ones_below}
use Rattle.code.specs.declared.Code.{Code}
use Rattle.code.specs.Description.{mask_of, describe_up_to, describe}
use Rattle.crc.specs.Check.{check_of}
use Rattle.transform.specs.Transform.{covers, parity, transformed, xors}
use Rattle.placing.specs.Place.{taken}
use Rattle.values.specs.Values.{f, g, left_values, right_values}
use Rattle.channel.specs.Channel.{channel_value, channel_values}
use Rattle.pass_tree.specs.Node.{node}
use Rattle.flip_trial.specs.declared.Restart.{Restart}
use Rattle.flip_trial.specs.declared.Restart.TheVariants.{AfterFlip}
use Rattle.flip_trial.specs.Trial.{later_trial, trial_passes}
use Rattle.flip_trial.specs.Flips.{Flips}
use Rattle.flip_run.specs.Trials.{run, tally}
use Rattle.decoder.specs.Candidate.{doubtful, extensions, insert_each}
use Rattle.decoder.specs.Tried.{tried, flip_sets}
use Rattle.decoder.specs.Decoder.{sets, flips_of, decoded_under, decoded_as, sets_full}
use Rattle.decoder.proofs.Examples.{wide_d, wide_code, used_up_v, bits_on, ten, set_examples}
use Rattle.decoder_demands.specs.Agreement.{SameRun}
use Rattle.decoder_demands.proofs.Agreement.{agreement}
use Rattle.decoder_demands.proofs.Known.{run_in, refused_run}
use Rattle.decoder_demands.proofs.Checked.{after-all}
use Rattle.decoder_demands.proofs.Instances.{describes, run_on, bits_by}
use Rattle.std.specs.Prelude.{Err, Ok}
use Rattle.flip_run.specs.declared.DecodingError.TheVariants.{NonePassed}

-- ---- sets of one or two indices: 16 carries 11 trials of at most 512

pub used_up_run : SameRun (sets 2 512) wide_d wide_code used_up_v 1
used_up_run = run_on (sets 2 512) used_up_v (set_examples 0).used_up.4 (omega arith)

-- ten sets are tried
pub ten-tried : length (flip_sets 2 512 (mask_of wide_d) wide_code (channel_values used_up_v)) ≡ 10
ten-tried = omega (arith, (refused_run used_up_run (set_examples 0).used_up.4).0)

-- every set of one or two information indices is among the ten
pub ten_are_all : (is : List ℕ) → Flips (mask_of wide_d) 8 is → length is ≤ 2 → Memᴰ is ten
ten_are_all =
    ⊎_elim (λ e. absurd (omega (arith, e))) (λ all is f m. subst (Memᴰ is) (set_examples 0).used_up.2 (all is f m))
    (refused_run used_up_run (set_examples 0).used_up.4).1

-- every restart answers so, and each output is as it was
pub used_up_refuses : (r : Restart) (byte : ℕ) → decoded_as (sets 2 512) r wide_d used_up_v (byte ∷ []) ≡ (Err (NonePassed (tally 11 (used_up_run.steps r))), byte ∷ [])
used_up_refuses = (refused_run used_up_run (set_examples 0).used_up.4).2

-- each of the eleven trials fails, and no more are made
pub used_up_fails : ((t : ℕ) → 1 ≤ t → t ≤ 11 → trial_passes (mask_of wide_d) wide_code (bits_by AfterFlip used_up_v t ten) ≡ false) × (length ten + 1 ≡ 11)
used_up_fails =
    let x = after-all (sets 2 512) AfterFlip wide_d wide_code used_up_v (0 ∷ []) 11 106 (0 ∷ []) describes (set_examples 0).used_up.5 in (
      λ t l m. subst (λ (flips : List (List ℕ)). trial_passes (mask_of wide_d) wide_code (bits_by AfterFlip used_up_v t flips) ≡ false) (set_examples 0).used_up.2 (x.1 t l m),
      subst (λ (flips : List (List ℕ)). length flips + 1 ≡ 11) (set_examples 0).used_up.2
          (omega (arith, x.0, length-map (flips_of (sets 2 512) (mask_of wide_d) wide_code (channel_values used_up_v)) (later_trial AfterFlip (mask_of wide_d) wide_code (channel_values used_up_v)))),
    )

-- the third trial flips 3 and 5, and fails
pub used_up_set_fails : (trial_passes (mask_of wide_d) wide_code (bits_on used_up_v (3 ∷ 5 ∷ [])) ≡ false) × (length ten + 1 ≡ 11)
used_up_set_fails = (used_up_fails.0 3 (omega arith) (omega arith), used_up_fails.1)

-- ---- sets of one, two or three indices: 16 carries 26 trials of at most 512

-- D with r = 4, the polynomial z^4 + z + 1 and another mask, so k = 1. Its information indices are 3 to 7.
abbrev five_d : List ℕ
five_d = 0x09 ∷ 0x00 ∷ 0x01 ∷ 0x00 ∷ 0x03 ∷ 0x04 ∷ 0x03 ∷ 0x00 ∷ 0xF8 ∷ []

abbrev five_code : Code
five_code = record { n = 3; r = 4; polynomial = 3; start = 0; k = 1 }

-- 0, −3, 0, 4, −1, 2, −4, −1
abbrev threes_v : List ℕ
threes_v = 0x00 ∷ 0xFD ∷ 0x00 ∷ 0x04 ∷ 0xFF ∷ 0x02 ∷ 0xFC ∷ 0xFF ∷ []

-- all sets of one, two or three information indices, in the order in which they are tried
abbrev pub twenty_five : List (List ℕ)
twenty_five =
    (3 ∷ []) ∷ (4 ∷ []) ∷ (3 ∷ 4 ∷ []) ∷ (3 ∷ 4 ∷ 5 ∷ []) ∷ (3 ∷ 5 ∷ []) ∷ (4 ∷ 5 ∷ []) ∷ (5 ∷ []) ∷ (4 ∷ 6 ∷ []) ∷ (4 ∷ 5 ∷ 6 ∷ []) ∷ (6 ∷ [])
    ∷ (3 ∷ 4 ∷ 6 ∷ []) ∷ (5 ∷ 6 ∷ []) ∷ (3 ∷ 5 ∷ 6 ∷ []) ∷ (3 ∷ 6 ∷ []) ∷ (3 ∷ 6 ∷ 7 ∷ []) ∷ (5 ∷ 6 ∷ 7 ∷ []) ∷ (5 ∷ 7 ∷ []) ∷ (3 ∷ 5 ∷ 7 ∷ [])
    ∷ (4 ∷ 5 ∷ 7 ∷ []) ∷ (6 ∷ 7 ∷ []) ∷ (3 ∷ 4 ∷ 7 ∷ []) ∷ (4 ∷ 6 ∷ 7 ∷ []) ∷ (3 ∷ 7 ∷ []) ∷ (4 ∷ 7 ∷ []) ∷ (7 ∷ []) ∷ []

-- by computation
threes : (describe five_d ≡ Ok five_code)
    × (flip_sets 3 512 (mask_of five_d) five_code (channel_values threes_v) ≡ twenty_five)
    × (sets_full five_d threes_v 3 512 (0 ∷ []) ≡ (Err (NonePassed (tally 26 624)), 0 ∷ []))
unfolding judge refused_or table number ones_below describe_up_to check_of covers parity transformed xors taken channel_value f g left_values right_values first_where node insert_by run doubtful extensions insert_each tried decoded_under decoded_as
threes = (refl, refl, refl)

-- every set of one, two or three information indices is among the 25
pub threes_are_all : (is : List ℕ) → Flips (mask_of five_d) 8 is → length is ≤ 3 → Memᴰ is twenty_five
threes_are_all =
    ⊎_elim (λ e. absurd (omega (arith, e))) (λ all is f m. subst (Memᴰ is) threes.1 (all is f m))
    (refused_run (run_in threes.0 (agreement (sets 3 512) five_d threes_v 1) threes.2 (omega arith)) threes.2).1
