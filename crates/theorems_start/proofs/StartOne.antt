-- Silence under a description of kind 4 with start 1: every premise is met, and from each statement an answer or a number follows that is computed apart.
use mathlib.Core.Path.{◌≡◌, refl, sym, ap, ◌∙◌}
use mathlib.Core.Bool.{true, false}
use mathlib.Core.List.{List, [], ◌∷◌}
use Prim.Native.Nat.{ℕ, zero, suc, ◌<◌, ◌≤◌}
use native.Mathlib.Omega.{arith}
use lib.ListN.{get_or}
use Rattle.laws.specs.First.{first_where}
use Rattle.laws.specs.Table.{table}
use Rattle.laws.specs.Insert.{insert_by, sort_by}
use Rattle.refusal.specs.Judge.{judge, refused_or}
use Rattle.bits.specs.Bit.{number}
use Rattle.bits.specs.Claims.{Bits}
use Rattle.bits.specs.Mask.{ones_below}
use Rattle.bits.specs.Packing.{packed}
use Rattle.code.specs.declared.Code.{Code}
use Rattle.code.specs.Description.{mask_of, describe_up_to, describe}
use Rattle.crc.specs.Check.{check_of}
use Rattle.transform.specs.Transform.{covers, parity, transformed, xors}
use Rattle.placing.specs.Place.{taken}
use Rattle.values.specs.Values.{f, g, left_values, right_values}
use Rattle.channel.specs.Channel.{channel_value, channel_values}
use Rattle.pass_tree.specs.Node.{node}
use Rattle.flip_order.specs.Order.{information}
use Rattle.flip_trial.specs.declared.Restart.{Restart}
use Rattle.flip_trial.specs.declared.Restart.TheVariants.{AfterFlip}
use Rattle.flip_trial.specs.Trial.{first_trial, trial_passes}
use Rattle.flip_run.specs.Trials.{run, tally}
use Rattle.decoder.specs.Candidate.{doubtful, extensions, insert_each}
use Rattle.decoder.specs.Tried.{tried}
use Rattle.decoder.specs.Decoder.{single, sets, decoded_under, decoded_as}
use Rattle.theorems_start.specs.Silence.{silence}
use Rattle.theorems_start.specs.Claims.{starting_at}
use Rattle.theorems_start.proofs.Silence.{trial_1_fails, silence_fails, silence-later, one_start}
use Rattle.std.specs.Prelude.{Err, Ok}
use Rattle.flip_run.specs.declared.DecodingError.TheVariants.{NonePassed}

-- document 01's D as a record of kind 4, with start 1
abbrev pub D4 : List ℕ
D4 = 0x0B ∷ 0x00 ∷ 0x04 ∷ 0x00 ∷ 0x03 ∷ 0x01 ∷ 0x01 ∷ 0x00 ∷ 0x01 ∷ 0x00 ∷ 0xE8 ∷ []

-- n = 3, r = 1, k = 3, the polynomial z + 1, and start 1
abbrev pub code4 : Code
code4 = record { n = 3; r = 1; polynomial = 1; start = 1; k = 3 }

describes : describe D4 ≡ Ok code4
unfolding describe_up_to judge refused_or ones_below
describes = refl

-- ---- trial 1

first_bits : (first_trial (mask_of D4) code4 (channel_values (silence code4))).bits ≡ 0 ∷ 0 ∷ 0 ∷ 0 ∷ 0 ∷ 0 ∷ 0 ∷ 0 ∷ []
unfolding table ones_below covers parity transformed xors channel_value f g left_values right_values node
first_bits = refl

-- the bits of trial 1 on silence are zeros, and do not pass
pub zeros_fail : trial_passes (mask_of D4) code4 (0 ∷ 0 ∷ 0 ∷ 0 ∷ 0 ∷ 0 ∷ 0 ∷ 0 ∷ []) ≡ false
zeros_fail = sym (ap (trial_passes (mask_of D4) code4) first_bits) ∙ trial_1_fails D4 code4 describes (omega arith)

-- ---- T = 1, at every restart

pub single_fails : (restart : Restart) (byte : ℕ) → decoded_as (single 1) restart D4 (silence code4) (byte ∷ []) ≡ (Err (NonePassed (tally 1 24)), byte ∷ [])
unfolding judge
single_fails restart byte = silence_fails (single 1) restart D4 code4 (byte ∷ []) describes (omega arith) refl refl refl

pub sets_fail : (restart : Restart) (byte : ℕ) → decoded_as (sets 3 1) restart D4 (silence code4) (byte ∷ []) ≡ (Err (NonePassed (tally 1 24)), byte ∷ [])
unfolding judge
sets_fail restart byte = silence_fails (sets 3 1) restart D4 code4 (byte ∷ []) describes (omega arith) refl refl refl

-- ---- T = 2: silence is accepted, by single flips and by sets, and not on trial 1

-- by computation: a start does not keep later trials from accepting silence
accepted_at_2 : (decoded_as (single 2) AfterFlip D4 (silence code4) (0 ∷ []) ≡ (Ok (tally 2 35), 0x80 ∷ [])) × (decoded_as (sets 2 2) AfterFlip D4 (silence code4) (0 ∷ []) ≡ (Ok (tally 2 35), 0x80 ∷ []))
unfolding judge refused_or table number ones_below packed describe_up_to check_of covers parity transformed xors taken channel_value f g left_values right_values first_where node information insert_by sort_by run doubtful extensions insert_each tried decoded_under decoded_as
accepted_at_2 = (refl, refl)

-- whatever trial it is, it is a later one
pub single-later : (trial steps : ℕ) (payload : List ℕ) → decoded_as (single 2) AfterFlip D4 (silence code4) (0 ∷ []) ≡ (Ok (tally trial steps), payload) → 2 ≤ trial
single-later trial steps payload e = omega (arith, silence-later (single 2) AfterFlip D4 code4 (0 ∷ []) trial steps payload describes (omega arith) e)

pub sets-later : (trial steps : ℕ) (payload : List ℕ) → decoded_as (sets 2 2) AfterFlip D4 (silence code4) (0 ∷ []) ≡ (Ok (tally trial steps), payload) → 2 ≤ trial
sets-later trial steps payload e = omega (arith, silence-later (sets 2 2) AfterFlip D4 code4 (0 ∷ []) trial steps payload describes (omega arith) e)

pub later_met : (2 ≤ 2) × (2 ≤ 2)
later_met = (single-later 2 35 (0x80 ∷ []) accepted_at_2.0, sets-later 2 35 (0x80 ∷ []) accepted_at_2.1)

-- ---- one start

-- the bits of trial 2 on silence: index 3 is flipped
abbrev passing : List ℕ
passing = 0 ∷ 0 ∷ 0 ∷ 1 ∷ 0 ∷ 0 ∷ 0 ∷ 0 ∷ []

passing-bits : Bits passing
passing-bits = record { at = each }
  where
    zeros : (i : ℕ) → get_or (0 ∷ 0 ∷ 0 ∷ 0 ∷ []) i 0 < 2
    zeros zero = omega arith
    zeros (suc zero) = omega arith
    zeros (suc (suc zero)) = omega arith
    zeros (suc (suc (suc zero))) = omega arith
    zeros (suc (suc (suc (suc i)))) = omega arith

    each : (i : ℕ) → get_or passing i 0 < 2
    each zero = omega arith
    each (suc zero) = omega arith
    each (suc (suc zero)) = omega arith
    each (suc (suc (suc zero))) = omega arith
    each (suc (suc (suc (suc i)))) = zeros i

passes-with-1 : trial_passes (mask_of D4) (starting_at 1 code4) passing ≡ true
unfolding table number check_of taken
passes-with-1 = refl

-- they pass with no other start
pub only-1 : (s : ℕ) → s < 2 → trial_passes (mask_of D4) (starting_at s code4) passing ≡ true → s ≡ 1
only-1 s l e = one_start D4 code4 passing s 1 describes passing-bits (omega (arith, l)) (omega arith) e passes-with-1
