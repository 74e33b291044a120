-- The main statements on frames of eight values. Every premise is met, and from each field an answer or a number follows that is computed apart. So a
-- premise that nothing meets, and a field that says less, fail here. UsedUp.antt has sets that are used up, and Longest.antt the longest frames.
use mathlib.Core.Path.{◌≡◌, refl, sym, ap, ap₂, ◌∙◌, subst}
use mathlib.Core.Bool.{true}
use mathlib.Core.Logic.{⊎_elim}
use mathlib.Core.List.{List, [], ◌∷◌, map, Forall₂}
use Prim.Native.Nat.{ℕ, zero, suc, ◌-◌, ◌<◌, ◌≤◌, min}
use native.Mathlib.Omega.{arith}
use lib.IntN.{ℤ, nat_abs}
use lib.ListN.{length, get_or, take, get_or-map}
use Rattle.laws.specs.First.{first_where}
use Rattle.laws.specs.Table.{table}
use Rattle.laws.proofs.Table.{get_or-table}
use Rattle.refusal.specs.declared.Refusal.{Refusal}
use Rattle.refusal.specs.Judge.{judge, refused_or}
use Rattle.refusal.proofs.Judge.{judge-none, judge_no}
use Rattle.refusal.proofs.Tests.{outside_no}
use Rattle.bits.specs.Bit.{number}
use Rattle.bits.specs.Mask.{ones_below}
use Rattle.bits.specs.Packing.{packed, unpacked}
use Rattle.code.specs.Description.{mask_of, describe_up_to, describe}
use Rattle.crc.specs.Check.{check_of}
use Rattle.transform.specs.Transform.{covers, parity, transformed}
use Rattle.placing.specs.Place.{placed}
use Rattle.values.specs.Values.{hard, f}
use Rattle.channel.specs.Channel.{channel_value, channel_values, first_outside}
use Rattle.encoder.specs.Encode.{codeword, encoded_by, encoded}
use Rattle.pass_tree.specs.Skipped.{skipped}
use Rattle.flip_trial.specs.declared.Restart.{Restart}
use Rattle.flip_trial.specs.declared.Restart.TheVariants.{Root, Half, AfterFlip}
use Rattle.flip_trial.specs.Trial.{first_trial, lowest, restart_at, later_trial, trial_passes}
use Rattle.flip_trial.specs.FirstAfter.{FirstAfter}
use Rattle.flip_trial.proofs.After.{after_3, after_5, after_6, after_7}
use Rattle.flip_run.specs.Trials.{flip_order, tally}
use Rattle.flip_run.proofs.Tallies.{tally_in}
use Rattle.decoder.specs.Decoder.{Decoder, single, sets, most_limit, WellFormed, decoded_as, decoded_full, decoded_half, decoded_restarted, sets_full, sets_restarted}
use Rattle.decoder.specs.Claims.{Allowed}
use Rattle.decoder.proofs.Decoder.{spelt_out}
use Rattle.decoder.proofs.Examples.{wide_d, wide_code, vector, pair_v, bits_on, set_examples}
use Rattle.decoder_demands.specs.Agreement.{skipped_over, lowest_of_each, SameRun}
use Rattle.decoder_demands.specs.Demand3.{BothDecode}
use Rattle.decoder_demands.specs.Noiseless.{Received}
use Rattle.decoder_demands.specs.Larger.{single_more, sets_more}
use Rattle.decoder_demands.proofs.Known.{kind_of, one_kind, run_in, accepted-run}
use Rattle.decoder_demands.proofs.Agreement.{agreement}
use Rattle.decoder_demands.proofs.Demand3.{demand_3}
use Rattle.decoder_demands.proofs.Noiseless.{noiseless, noiseless_decoding}
use Rattle.decoder_demands.proofs.Checked.{only_checked}
use Rattle.decoder_demands.proofs.Larger.{stays_accepted}
use Rattle.std.specs.Prelude.{Err, Ok}
use Rattle.refusal.specs.declared.Refusal.TheVariants.{TrialLimit}
use Rattle.flip_run.specs.declared.DecodingError.TheVariants.{NonePassed, Refused}
use Rattle.encoder.specs.Clauses.{Encoded}
use Rattle.flip_run.specs.Clauses.{Decoded}

pub describes : describe wide_d ≡ Ok wide_code
describes = (set_examples 0).described

-- ---- agreement: from what full decoding answers, which is computed, follows what half restart and restarted decoding do

-- a run under wideD, if full decoding refuses nothing before 16
pub run_on : (p : Decoder) (channel : List ℕ) {z : Decoded × List ℕ} → decoded_as p Root wide_d channel (0 ∷ []) ≡ z → kind_of z < 2 → SameRun p wide_d wide_code channel 1
run_on p channel e few = run_in describes (agreement p wide_d channel 1) e few

-- single flips on V with T = 5: trial 2 flips 5
module _ where
  pub single-run : SameRun (single 5) wide_d wide_code vector 1
  single-run = run_on (single 5) vector (set_examples 0).by_single_flips.1 (omega arith)

  single-answers : (single-run.made ≡ 2) × ((r : Restart) (byte : ℕ) → decoded_as (single 5) r wide_d vector (byte ∷ []) ≡ (Ok (tally 2 (single-run.steps r)), 0x00 ∷ []))
  single-answers = accepted-run single-run (set_examples 0).by_single_flips.1

  single-lowest : lowest_of_each (single 5) wide_d wide_code vector single-run.made ≡ 5 ∷ []
  single-lowest =
      ap (lowest_of_each (single 5) wide_d wide_code vector) single-answers.0
      ∙ ap (λ (order : List ℕ). map lowest (take 1 (take 4 (map (λ i. i ∷ []) order)))) (set_examples 0).by_single_flips.0

  -- one index for the one trial after the first
  pub single-each : length (lowest_of_each (single 5) wide_d wide_code vector single-run.made) ≡ 1
  single-each = omega (arith, single-run.each, single-answers.0)

  pub single-full : single-run.steps Root ≡ 48
  single-full = omega (arith, single-run.full_steps, single-answers.0)

  -- the trial resumes at 6, and saves 6 + 6 + 4 steps
  pub single_restarted : (byte : ℕ) → decoded_restarted wide_d vector 5 (byte ∷ []) ≡ (Ok (tally 2 32), 0x00 ∷ [])
  unfolding first_where skipped
  single_restarted byte =
      let steps : single-run.steps AfterFlip ≡ 32 = omega (arith, single-full, single-run.exceeds AfterFlip, ap (λ (is : List ℕ). skipped_over 3 (map (restart_at AfterFlip (mask_of wide_d) 8) is)) single-lowest) in
      single-answers.1 AfterFlip byte ∙ ap (λ (s : ℕ). (Ok (tally 2 s), 0x00 ∷ [])) steps

  -- it resumes at 4, and saves 4 + 4 + 4 steps
  pub single-half : (byte : ℕ) → decoded_half wide_d vector 5 (byte ∷ []) ≡ (Ok (tally 2 36), 0x00 ∷ [])
  unfolding skipped
  single-half byte =
      let steps : single-run.steps Half ≡ 36 = omega (arith, single-full, single-run.exceeds Half, ap (λ (is : List ℕ). skipped_over 3 (map (restart_at Half (mask_of wide_d) 8) is)) single-lowest) in
      single-answers.1 Half byte ∙ ap (λ (s : ℕ). (Ok (tally 2 s), 0x00 ∷ [])) steps

  -- what restarted decoding is computed to take bounds half restart from below, and what full decoding is computed to take from above
  pub half_between : (32 ≤ single-run.steps Half) × (single-run.steps Half ≤ 48)
  half_between =
      let answer : Ok (tally 2 32) ≡ Ok (tally 2 (single-run.steps AfterFlip)) = ap (λ (z : Decoded × List ℕ). z.0) (sym (set_examples 0).by_single_flips.3 ∙ single-answers.1 AfterFlip 0) in
      let restarted : single-run.steps AfterFlip ≡ 32 = sym (ap (λ (a : Decoded). (tally_in a).steps) answer) in
      (omega (arith, single-run.restarted_least, restarted), omega (arith, single-run.full_most, single-full))

-- with T = 1 no later trial is made, and with T = 6 every restart refuses as 14
pub one_at_most : (run_on (single 1) vector (set_examples 0).by_single_flips.4 (omega arith)).made ≤ 1
one_at_most = omega (arith, (run_on (single 1) vector (set_examples 0).by_single_flips.4 (omega arith)).most)

pub all_refuse : (r : Restart) (byte : ℕ) → decoded_as (single 6) r wide_d vector (byte ∷ []) ≡ (Err (Refused TrialLimit), byte ∷ [])
all_refuse r byte =
    ⊎_elim
    (λ u.
    let answer : Err (Refused TrialLimit) ≡ Err (Refused u.0) = ap (λ (z : Decoded × List ℕ). z.0) (sym (set_examples 0).by_single_flips.5 ∙ u.1 Root (0 ∷ []) refl) in
    let same : u.0 ≡ TrialLimit = cc in
    u.1 r (byte ∷ []) refl ∙ ap (λ (x : Refusal). (Err (Refused x), byte ∷ [])) same)
    (λ u.
    ⊎_elim (λ a. absurd (omega (arith, one_kind (set_examples 0).by_single_flips.5 (a.1 Root (0 ∷ []) refl))))
    (λ a. absurd (omega (arith, one_kind (set_examples 0).by_single_flips.5 (a.2 Root (0 ∷ []) refl)))) u.2.answers)
    (agreement (single 6) wide_d vector 1)

-- sets: [3] and [3, 5] are flipped, and trial 3 is accepted. Both resume at 5, and save 5 + 4 + 4 steps each.
pub pair_restarted : (byte : ℕ) → sets_restarted wide_d pair_v 2 4 (byte ∷ []) ≡ (Ok (tally 3 46), 0x80 ∷ [])
unfolding first_where skipped
pair_restarted byte =
    let x = run_on (sets 2 4) pair_v (set_examples 0).by_own_trial.7 (omega arith) in
    let e = accepted-run x (set_examples 0).by_own_trial.7 in
    let is : lowest_of_each (sets 2 4) wide_d wide_code pair_v x.made ≡ 3 ∷ 3 ∷ [] =
    ap₂ (λ (m : ℕ) (js : List (List ℕ)). map lowest (take (m - 1) js)) e.0 (set_examples 0).by_own_trial.3 in
    let steps : x.steps AfterFlip ≡ 46 = omega (arith, x.full_steps, e.0, x.exceeds AfterFlip, ap (λ (is : List ℕ). skipped_over 3 (map (restart_at AfterFlip (mask_of wide_d) 8) is)) is) in
    e.1 AfterFlip byte ∙ ap (λ (s : ℕ). (Ok (tally 3 s), 0x80 ∷ [])) steps

-- ---- well-formed calls

-- eight values in range, and an output of one byte
well_formed : (p : Decoder) (channel : List ℕ) → length channel ≡ 8 → first_outside channel ≡ 8 → Allowed p wide_code → (byte : ℕ) → WellFormed p wide_d wide_code channel (byte ∷ [])
well_formed p channel size inside allowed byte = record {
  described = describes;
  fine = (spelt_out p wide_code channel (byte ∷ [])).0 (record { channel_size = size; in_range = inside ∙ sym size; allowed = allowed; output_size = refl });
}

vector-inside : first_outside vector ≡ 8
unfolding first_where channel_value
vector-inside = refl

pair_inside : first_outside pair_v ≡ 8
unfolding first_where channel_value
pair_inside = refl

-- ---- demand 3, on V

-- for every T, whatever bytes the outputs held
pub both_decode : (T byte byte' : ℕ) → 1 ≤ T → T ≤ 5 → BothDecode wide_d wide_code vector T (byte ∷ []) (byte' ∷ [])
both_decode T byte byte' least most =
    demand_3 wide_d wide_code vector T (byte ∷ []) (byte' ∷ []) (well_formed (single T) vector refl vector-inside (least, most) byte) (well_formed (single T) vector refl vector-inside (least, most) byte')

abbrev Each : List ℕ → List ℕ → Type 0
Each = Forall₂ (FirstAfter (mask_of wide_d) 8)

skipped_after_5 : {qs : List ℕ} → Each (5 ∷ []) qs → skipped_over 3 qs ≡ 16
unfolding skipped
skipped_after_5 (Forall₂.cons f Forall₂.nil) = ap (λ (q : ℕ). skipped_over 3 (q ∷ [])) (after_5 f)

-- trial 1 flips nothing
skipped_over-none : {qs : List ℕ} → Each [] qs → skipped_over 3 qs ≡ 0
skipped_over-none Forall₂.nil = refl

-- From what full decoding answers, which is computed, follows what restarted decoding does: with T = 1 refusal 16 after as many steps, and with T = 5
-- acceptance on trial 2, which flips 5, after 16 steps less.
module _ (byte byte' : ℕ) where
  -- the flipped indices of t trials
  abbrev flipped : ℕ → List ℕ
  flipped t = take (t - 1) (flip_order (mask_of wide_d) wide_code (channel_values vector))

  -- each buffer is as it was
  pub both_refuse : (decoded_full wide_d vector 1 (byte ∷ []) ≡ (Err (NonePassed (tally 1 24)), byte ∷ [])) × (decoded_restarted wide_d vector 1 (byte' ∷ []) ≡ (Err (NonePassed (tally 1 24)), byte' ∷ []))
  both_refuse =
      let both = both_decode 1 byte byte' (omega arith) (omega arith) in
      ⊎_elim (λ x. absurd (omega (arith, one_kind (set_examples byte).by_single_flips.4 x.1)))
      (λ x.
      let none = skipped_over-none (subst (λ (is : List ℕ). Each is both.qs) (ap flipped x.0) both.q_is) in
      let full : both.full ≡ 24 = omega (arith, both.full_steps, x.0) in
      let restarted : both.restarted ≡ 24 = omega (arith, full, both.exceeds, none) in (
        x.1 ∙ ap₂ (λ (t s : ℕ). (Err (NonePassed (tally t s)), byte ∷ [])) x.0 full,
        x.2 ∙ ap₂ (λ (t s : ℕ). (Err (NonePassed (tally t s)), byte' ∷ [])) x.0 restarted,
      ))
      both.answers

  -- of restarted decoding alone
  pub restarted_refuses : decoded_restarted wide_d vector 1 (byte' ∷ []) ≡ (Err (NonePassed (tally 1 24)), byte' ∷ [])
  restarted_refuses = both_refuse.1

  -- two trials are made, so there is one q
  pub one_q : length (both_decode 5 byte byte' (omega arith) (omega arith)).qs ≡ 1
  one_q =
      let both = both_decode 5 byte byte' (omega arith) (omega arith) in
      ⊎_elim
      (λ x.
      let answer : Ok (tally 2 48) ≡ Ok (tally both.made both.full) = ap (λ (z : Decoded × List ℕ). z.0) (sym (set_examples byte).by_single_flips.1 ∙ x.1) in
      let made : both.made ≡ 2 = sym (ap (λ (a : Decoded). (tally_in a).trials) answer) in
      omega (arith, both.each, made))
      (λ x. absurd (omega (arith, one_kind (set_examples byte).by_single_flips.1 x.1)))
      both.answers

  pub restarted_accepts : decoded_restarted wide_d vector 5 (byte' ∷ []) ≡ (Ok (tally 2 32), 0x00 ∷ [])
  restarted_accepts =
      let both = both_decode 5 byte byte' (omega arith) (omega arith) in
      ⊎_elim
      (λ x.
      let e : (Ok (tally 2 48), 0x00 ∷ []) ≡ (Ok (tally both.made both.full), x.0) = sym (set_examples byte).by_single_flips.1 ∙ x.1 in
      let answer : Ok (tally 2 48) ≡ Ok (tally both.made both.full) = ap (λ (z : Decoded × List ℕ). z.0) e in
      let made : both.made ≡ 2 = sym (ap (λ (a : Decoded). (tally_in a).trials) answer) in
      let one : flipped both.made ≡ 5 ∷ [] = ap flipped made ∙ ap (take 1) (set_examples byte).by_single_flips.0 in
      let saved = skipped_after_5 (subst (λ (is : List ℕ). Each is both.qs) one both.q_is) in
      let steps : both.restarted ≡ 32 = omega (arith, both.full_steps, both.exceeds, made, saved) in
      x.2 ∙ ap₂ (λ (a : Decoded) (b : List ℕ). (a, b)) (ap₂ (λ (t s : ℕ). Ok (tally t s)) made steps) (sym (ap (λ (z : Decoded × List ℕ). z.1) e)))
      (λ x. absurd (omega (arith, one_kind (set_examples byte).by_single_flips.1 x.1)))
      both.answers

-- On `pair_v` all four flips fail, and the q are 5, 6, 7 and, since no information index follows 7, 8.
skipped_after_all : {qs : List ℕ} → Each (3 ∷ 5 ∷ 6 ∷ 7 ∷ []) qs → skipped_over 3 qs ≡ 70
unfolding skipped
skipped_after_all (Forall₂.cons a (Forall₂.cons b (Forall₂.cons c (Forall₂.cons d Forall₂.nil)))) =
    ap (λ (qs : List ℕ). skipped_over 3 qs)
    (ap₂ (λ (x : ℕ) (xs : List ℕ). x ∷ xs) (after_3 a)
    (ap₂ (λ (x : ℕ) (xs : List ℕ). x ∷ xs) (after_5 b) (ap₂ (λ (x y : ℕ). x ∷ y ∷ []) (after_6 c) (after_7 d))))

pub restarted_fails : (byte byte' : ℕ) → decoded_restarted wide_d pair_v 5 (byte' ∷ []) ≡ (Err (NonePassed (tally 5 50)), byte' ∷ [])
restarted_fails byte byte' =
    let on : (b : ℕ) → WellFormed (single 5) wide_d wide_code pair_v (b ∷ []) = well_formed (single 5) pair_v refl pair_inside (omega arith, omega arith) in
    let both = demand_3 wide_d wide_code pair_v 5 (byte ∷ []) (byte' ∷ []) (on byte) (on byte') in
    ⊎_elim (λ x. absurd (omega (arith, one_kind (set_examples byte).all_fail.1 x.1)))
    (λ x.
    let flipped = ap₂ (λ (t : ℕ) (order : List ℕ). take (t - 1) order) x.0 (set_examples byte).all_fail.0 in
    let saved = skipped_after_all (subst (λ (is : List ℕ). Each is both.qs) flipped both.q_is) in
    let steps : both.restarted ≡ 50 = omega (arith, both.full_steps, both.exceeds, x.0, saved) in
    x.2 ∙ ap₂ (λ (t s : ℕ). (Err (NonePassed (tally t s)), byte' ∷ [])) x.0 steps)
    both.answers

-- with T = 1 one trial is made, and there is no q
pub no_q : (byte : ℕ) → length (both_decode 1 byte byte (omega arith) (omega arith)).qs ≡ 0
no_q byte = let both = both_decode 1 byte byte (omega arith) (omega arith) in omega (arith, both.each, both.most)

-- ---- the noiseless clause, on the codeword `A5` of payload `80`

-- −1, 31, −2, 1, 5, −31, 1, −9
abbrev noiseless80 : List ℕ
noiseless80 = 0xFF ∷ 0x1F ∷ 0xFE ∷ 0x01 ∷ 0x05 ∷ 0xE1 ∷ 0x01 ∷ 0xF7 ∷ []

pub encodes_80 : encoded wide_d (0x80 ∷ []) (0 ∷ []) ≡ (Ok tt, 0xA5 ∷ [])
unfolding judge refused_or table number ones_below packed unpacked describe_up_to check_of covers parity transformed placed codeword encoded_by encoded
encodes_80 = refl

encodes_00 : encoded wide_d (0x00 ∷ []) (0 ∷ []) ≡ (Ok tt, 0x00 ∷ [])
unfolding judge refused_or table number ones_below packed unpacked describe_up_to check_of covers parity transformed placed codeword encoded_by encoded
encodes_00 = refl

pub small : (m : ℕ) → get_or (0x80 ∷ []) m 0 < 256
small zero = omega arith
small (suc m) = omega arith

noiseless-inside : first_outside noiseless80 ≡ 8
unfolding first_where channel_value
noiseless-inside = refl

signs : map (λ b. hard (channel_value b)) noiseless80 ≡ unpacked (0xA5 ∷ []) 8
unfolding channel_value table unpacked
signs = refl

strengths : map (λ b. min 1 (nat_abs (channel_value b))) noiseless80 ≡ table (λ j. 1) 8
unfolding channel_value table
strengths = refl

received : Received 8 wide_d (0x80 ∷ []) noiseless80
unfolding channel_value
received = record {
  bytes = small;
  buffer = 0 ∷ [];
  codeword = 0xA5 ∷ [];
  encodes = encodes_80;
  sign = λ j l. sym (get_or-map (λ b. hard (channel_value b)) noiseless80 j 0) ∙ ap (λ (x : List ℕ). get_or x j 0) signs;
  strength = λ j l.
      omega (arith, sym (get_or-map (λ b. min 1 (nat_abs (channel_value b))) noiseless80 j 0) ∙ ap (λ (x : List ℕ). get_or x j 0) strengths ∙ get_or-table (λ j. 1) 8 j 0 l);
}

-- for every T, whatever byte the output held
pub decodes_80 : (T byte : ℕ) → 1 ≤ T → T ≤ 5 → (decoded_full wide_d noiseless80 T (byte ∷ []) ≡ (Ok (tally 1 24), 0x80 ∷ [])) × (decoded_restarted wide_d noiseless80 T (byte ∷ []) ≡ (Ok (tally 1 24), 0x80 ∷ []))
decodes_80 T byte least most = noiseless_decoding wide_d wide_code (0x80 ∷ []) noiseless80 T (byte ∷ []) received (well_formed (single T) noiseless80 refl noiseless-inside (least, most) byte)

-- every restart by sets, for every w and every T
pub sets_decode_80 : (r : Restart) (w T byte : ℕ) → 1 ≤ w → w ≤ 3 → 1 ≤ T → T ≤ most_limit w wide_code → decoded_as (sets w T) r wide_d noiseless80 (byte ∷ []) ≡ (Ok (tally 1 24), 0x80 ∷ [])
sets_decode_80 r w T byte w-least w-most least most =
    noiseless (sets w T) r wide_d wide_code (0x80 ∷ []) noiseless80 (byte ∷ []) received (well_formed (sets w T) noiseless80 refl noiseless-inside (w-least, w-most, least, most) byte)

-- ---- only what passes its check is accepted

-- the bits of trial t, by the sets of the later trials
abbrev pub bits_by : Restart → List ℕ → ℕ → List (List ℕ) → List ℕ
bits_by restart channel t flips =
    let v : List ℤ = channel_values channel in
    get_or (map (λ o. o.bits) (first_trial (mask_of wide_d) wide_code v ∷ map (later_trial restart (mask_of wide_d) wide_code v) flips)) (t - 1) []

-- sets on `pair_v`: trial 3, of [3, 5], passes, and what is written is encoded as the transform of its bits
pub pair_passes : trial_passes (mask_of wide_d) wide_code (bits_on pair_v (3 ∷ 5 ∷ [])) ≡ true
pair_passes =
    subst (λ (flips : List (List ℕ)). trial_passes (mask_of wide_d) wide_code (bits_by AfterFlip pair_v 3 flips) ≡ true) (set_examples 0).by_own_trial.3
    (only_checked (sets 2 4) AfterFlip wide_d wide_code pair_v (0 ∷ []) 3 46 (0x80 ∷ []) describes (set_examples 0).by_own_trial.8).0

pub pair_codeword : packed (transformed 3 (bits_on pair_v (3 ∷ 5 ∷ []))) ≡ 0xA5 ∷ []
pair_codeword =
    let e = (only_checked (sets 2 4) AfterFlip wide_d wide_code pair_v (0 ∷ []) 3 46 (0x80 ∷ []) describes (set_examples 0).by_own_trial.8).1 (0 ∷ []) refl in
    sym (ap (λ (flips : List (List ℕ)). packed (transformed 3 (bits_by AfterFlip pair_v 3 flips))) (set_examples 0).by_own_trial.3)
    ∙ sym (ap (λ (z : Encoded × List ℕ). z.1) e) ∙ ap (λ (z : Encoded × List ℕ). z.1) encodes_80

-- single flips on V, each trial from the root: trial 2, of 5, passes, and what is written is encoded as the transform of its bits
module _ where
  abbrev bits_of5 : List ℕ
  bits_of5 = (later_trial Root (mask_of wide_d) wide_code (channel_values vector) (5 ∷ [])).bits

  -- trial 2, by the order of flipped indices
  abbrev bits_by2 : List ℕ → List ℕ
  bits_by2 order = bits_by Root vector 2 (take 4 (map (λ i. i ∷ []) order))

  pub single_checked : (trial_passes (mask_of wide_d) wide_code bits_of5 ≡ true) × (packed (transformed 3 bits_of5) ≡ 0x00 ∷ [])
  single_checked =
      let order = (set_examples 0).by_single_flips.0 in
      let x = only_checked (single 5) Root wide_d wide_code vector (0 ∷ []) 2 48 (0x00 ∷ []) describes (set_examples 0).by_single_flips.1 in (
        subst (λ (is : List ℕ). trial_passes (mask_of wide_d) wide_code (bits_by2 is) ≡ true) order x.0,
        sym (ap (λ (is : List ℕ). packed (transformed 3 (bits_by2 is))) order)
            ∙ sym (ap (λ (z : Encoded × List ℕ). z.1) (x.1 (0 ∷ []) refl)) ∙ ap (λ (z : Encoded × List ℕ). z.1) encodes_00,
      )

-- ---- a larger trial limit: what T = 2 accepts by single flips, T up to 5 does; by sets what T = 4 accepts, every larger T does

accepts_at_2 : (byte : ℕ) → decoded_restarted wide_d vector 2 (byte ∷ []) ≡ (Ok (tally 2 32), 0x00 ∷ [])
accepts_at_2 byte = (set_examples byte).by_single_flips.6

pub stays_for_larger : (T byte : ℕ) → 2 ≤ T → T ≤ 5 → decoded_restarted wide_d vector T (byte ∷ []) ≡ (Ok (tally 2 32), 0x00 ∷ [])
stays_for_larger T byte least most =
    stays_accepted (single 2) (single T) AfterFlip wide_d wide_code vector (0 ∷ []) (byte ∷ []) 2 32 (0x00 ∷ []) describes (single_more least)
    (judge_no _ _ _ (outside_no T 1 5 (omega arith) most) ∙ judge-none) refl (accepts_at_2 0)

pub stays_for_larger_sets : (T byte : ℕ) → 4 ≤ T → T ≤ 512 → sets_full wide_d pair_v 2 T (byte ∷ []) ≡ (Ok (tally 3 72), 0x80 ∷ [])
stays_for_larger_sets T byte least most =
    stays_accepted (sets 2 4) (sets 2 T) Root wide_d wide_code pair_v (0 ∷ []) (byte ∷ []) 3 72 (0x80 ∷ []) describes (sets_more least)
    (judge_no _ _ _ (outside_no 2 1 3 (omega arith) (omega arith)) ∙ judge_no _ _ _ (outside_no T 1 512 (omega arith) most) ∙ judge-none) refl (set_examples 0).by_own_trial.7
