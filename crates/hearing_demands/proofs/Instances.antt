-- Document 02, request 2.6: the theorems at two weak hearings of one frame. Each field of `Holds` is read, for a number or an answer that is computed
-- from it. Neither hearing decodes alone; their sums, of which one is clipped, fail trials 1 and 2 and pass trial 3.
use mathlib.Core.Path.{◌≡◌, refl, ap, ap₂, ◌∙◌}
use mathlib.Core.Bool.{Bool, true, false, ◌&&◌}
use mathlib.Core.List.{List, [], ◌∷◌, map}
use Prim.Native.Nat.{ℕ, zero, suc, ◌-◌, ◌^◌, ◌≤◌, ◌<◌}
use native.Mathlib.Omega.{arith}
use borrow.Author.Tests.{ltb-true, le-ltb}
use lib.Dec.{ltb}
use lib.ListN.{length, get_or, take, replicate}
use lib.Seq.{get_or_at}
use Rattle.laws.specs.First.{first_where}
use Rattle.laws.specs.Table.{table}
use Rattle.laws.specs.Insert.{insert_by, sort_by}
use Rattle.laws.proofs.Choice.{and_true}
use Rattle.laws.proofs.Each.{Each, each_append}
use Rattle.refusal.specs.Judge.{judge, refused_or}
use Rattle.arrays.specs.Sizes.{largest_n}
use Rattle.arrays.specs.Padded.{padded}
use Rattle.arrays.proofs.Zeros.{length-padded}
use Rattle.bits.specs.Bit.{number}
use Rattle.bits.specs.Mask.{ones_below}
use Rattle.bits.specs.Packing.{packed}
use Rattle.code.specs.declared.Code.{Code}
use Rattle.code.specs.Description.{mask_of, describe_up_to, describe, on_description}
use Rattle.code.specs.Code.{longest_description}
use Rattle.crc.specs.Check.{check_of}
use Rattle.transform.specs.Transform.{covers, parity, transformed, xors}
use Rattle.placing.specs.Place.{taken}
use Rattle.values.specs.Values.{f, g, left_values, right_values}
use Rattle.channel.specs.Channel.{channel_value, channel_values, first_outside}
use Rattle.channel.proofs.Outside.{each-inside}
use Rattle.pass_tree.specs.Node.{node}
use Rattle.pass_tree.specs.Skipped.{skipped}
use Rattle.flip_order.specs.Order.{information}
use Rattle.flip_trial.specs.declared.Restart.TheVariants.{Root, AfterFlip}
use Rattle.flip_trial.specs.Trial.{lowest, restart_at}
use Rattle.flip_run.specs.Trials.{flip_order, run, tally}
use Rattle.decoder.specs.Decoder.{single, decoded_under, decoded_as, decoded_full, decoded_restarted}
use Rattle.decoder_demands.specs.Agreement.{skipped_over, lowest_of_each}
use Rattle.decoder_demands.proofs.Known.{run_in, accepted-run}
use Rattle.hearing.specs.Hearing.{hearing_of, combined, clipped_sums, add_refusals}
use Rattle.hearing.proofs.Inside.{Inside, each-zero, zeros-inside, fresh-is, combined-is, zeros_hearing, heard_hearing}
use Rattle.hearing_state.specs.State.{State, state_of, description_of, code_of_state, refused_in, opened, added, decoded_held_with}
use Rattle.hearing_state.specs.Clauses.{added_under}
use Rattle.hearing_buffer.specs.Lent.{hearing_size, bytes_of, state_in, opened_in}
use Rattle.hearing_buffer.proofs.Bytes.{size_of, read_written}
use Rattle.hearing_demands.specs.Repeats.{Call, add, after, accepted_in, Holds, buffer_after}
use Rattle.hearing_demands.proofs.Descriptions.{opened-is, code_of}
use Rattle.hearing_demands.proofs.HeldAfter.{room, added-fine, held_after_lem, held-bounds}
use Rattle.hearing_demands.proofs.Buffer.{buffer-after}
use Rattle.hearing_demands.proofs.Left.{left_by_some, bytes_left}
use Rattle.std.specs.Prelude.{Err, Ok}
use Rattle.flip_run.specs.declared.DecodingError.TheVariants.{NonePassed}
use Rattle.refusal.specs.declared.Refusal.TheVariants.{ChannelLength}
use Rattle.refusal.specs.Clauses.{Judgement}
use Rattle.code.specs.Clauses.{Description}

-- document 01's D with r = 3 and the polynomial z^3 + z + 1, so k = 1: its information indices are 3, 5, 6 and 7
abbrev d : List ℕ
d = 0x09 ∷ 0x00 ∷ 0x01 ∷ 0x00 ∷ 0x03 ∷ 0x03 ∷ 0x03 ∷ 0x00 ∷ 0xE8 ∷ []

abbrev c : Code
c = record { n = 3; r = 3; polynomial = 3; start = 0; k = 1 }

describes : describe d ≡ Ok c
unfolding judge refused_or ones_below describe_up_to
describes = refl

-- −3, −13, 3, 9, −2, −7, 14, −4
abbrev first_v : List ℕ
first_v = 0xFD ∷ 0xF3 ∷ 0x03 ∷ 0x09 ∷ 0xFE ∷ 0xF9 ∷ 0x0E ∷ 0xFC ∷ []

-- 1, −19, 8, −6, 9, −15, 11, −8
abbrev second_v : List ℕ
second_v = 0x01 ∷ 0xED ∷ 0x08 ∷ 0xFA ∷ 0x09 ∷ 0xF1 ∷ 0x0B ∷ 0xF8 ∷ []

-- their sums: −2, −32, clipped to −31, 11, 3, 7, −22, 25, −12
abbrev sums_v : List ℕ
sums_v = 0xFE ∷ 0xE1 ∷ 0x0B ∷ 0x03 ∷ 0x07 ∷ 0xEA ∷ 0x19 ∷ 0xF4 ∷ []

-- with T = 5, which is K + 1, whatever byte the output held
pub record Decodings (byte : ℕ) : Type 0 where
  -- neither hearing decodes
  pub first_fails : decoded_full d first_v 5 (byte ∷ []) ≡ (Err (NonePassed (tally 5 120)), byte ∷ [])
  pub second_fails : decoded_full d second_v 5 (byte ∷ []) ≡ (Err (NonePassed (tally 5 120)), byte ∷ [])
  -- their sums do, by full decoding and restarted
  pub sums_full : decoded_full d sums_v 5 (byte ∷ []) ≡ (Ok (tally 3 72), 0x80 ∷ [])
  pub sums_restarted : decoded_restarted d sums_v 5 (byte ∷ []) ≡ (Ok (tally 3 43), 0x80 ∷ [])
  -- 5 and 3 are flipped first
  pub sums_order : flip_order (mask_of d) c (channel_values sums_v) ≡ 5 ∷ 3 ∷ 6 ∷ 7 ∷ []

pub decodings : (byte : ℕ) → Decodings byte
unfolding first_where table judge refused_or number ones_below packed describe_up_to check_of covers parity transformed xors taken f g left_values right_values channel_value node information insert_by sort_by run decoded_under decoded_as
decodings byte = record { first_fails = refl; second_fails = refl; sums_full = refl; sums_restarted = refl; sums_order = refl }

-- ---- both hearings

abbrev pub calls : List Call
calls = add first_v ∷ add second_v ∷ []

abbrev pub s : State
s = after (opened d).1 calls

both-accepted : accepted_in c [] calls ≡ first_v ∷ second_v ∷ []
unfolding first_where judge refused_or channel_value
both-accepted = refl

h : Holds d c s (accepted_in c [] calls)
h = held_after_lem d c calls describes

-- ---- the state that they leave

room_8 : 8 ≤ 2 ^ largest_n
room_8 = room d c describes

none-outside : (first_outside first_v ≡ 8) × (first_outside sums_v ≡ 8)
unfolding first_where channel_value
none-outside = (refl, refl)

inside : (v : List ℕ) → length v ≡ 8 → first_outside v ≡ 8 → Inside 8 v
inside v size e = record { size_is = size; at = each-inside v (omega (arith, size, e)) }

fine : (judge (add_refusals c 0 first_v) ≡ Ok tt) × (judge (add_refusals c 1 second_v) ≡ Ok tt)
unfolding first_where judge channel_value
fine = (refl, refl)

sums : (clipped_sums 8 (replicate 8 0) first_v ≡ first_v) × (clipped_sums 8 first_v second_v ≡ sums_v)
unfolding table channel_value
sums = (refl, refl)

abbrev twice : State
twice = state_of d (hearing_of sums_v 2)

leaves : s ≡ twice
leaves =
    let zeros : List ℕ = replicate 8 0 in
    let first : Inside 8 first_v = inside first_v refl none-outside.0 in
    let fresh : (opened d).1 ≡ state_of d (hearing_of zeros 0) =
    ap (λ (a : Judgement × State). a.1) (opened-is d c describes) ∙ ap (state_of d) (fresh-is room_8) in
    let once : (added (state_of d (hearing_of zeros 0)) first_v).1 ≡ state_of d (hearing_of first_v 1) =
    added-fine d c describes zeros (zeros-inside 8) 0 (zeros_hearing c room_8 0 (omega arith)) first_v fine.0
    ∙ ap (λ (v : List ℕ). state_of d (hearing_of v 1)) sums.0 in
    ap (λ (t : State). (added (added t first_v).1 second_v).1) fresh ∙ ap (λ (t : State). (added t second_v).1) once
    ∙ added-fine d c describes first_v first 1 (heard_hearing c first_v first 0 (omega arith)) second_v fine.1
    ∙ ap (λ (v : List ℕ). state_of d (hearing_of v 2)) sums.1

sums-inside : Inside 8 sums_v
sums-inside = inside sums_v refl none-outside.1

held_bytes : combined c s.hearing ≡ sums_v
held_bytes = ap (λ (t : State). combined c t.hearing) leaves ∙ combined-is c sums_v sums-inside 2

-- ---- each field of `Holds` and of `Bounds`

pub record Held : Type 0 where
  -- the description that is held has nine bytes
  pub description : length (description_of s) ≡ 9
  -- a third vector is judged: as too short, and not as 40
  pub code : (added s (0x01 ∷ [])).0 ≡ Err ChannelLength
  -- two vectors are held, and no list of calls leaves more than 255
  pub count : s.hearing.count ≡ 2
  pub most : (more : List Call) → ltb 255 (length (accepted_in c [] more)) ≡ false
  -- the held values, their number, and that none is outside
  pub values : channel_values (combined c s.hearing) ≡ channel_values sums_v
  pub size : length (combined c s.hearing) ≡ 8
  pub in_range : first_outside (combined c s.hearing) ≡ 8
  -- trial 3 decodes them, in 72 steps from the root and in 43 restarted
  pub full : (byte : ℕ) → decoded_held_with Root s 5 (byte ∷ []) ≡ (Ok (tally 3 72), 0x80 ∷ [])
  pub restarted : (byte : ℕ) → decoded_held_with AfterFlip s 5 (byte ∷ []) ≡ (Ok (tally 3 43), 0x80 ∷ [])

pub held : Held
unfolding first_where table judge refused_or channel_value
held = record {
  description = ap length h.description_is;
  code = ap (λ (a : Description). (on_description a (refused_in s) (λ c. added_under c s (0x01 ∷ []))).0) h.code_is;
  count = h.count_is ∙ ap length both-accepted;
  most = λ more. le-ltb 255 (length (accepted_in c [] more)) (held-bounds d c more describes).count_most;
  values = h.values_are;
  size = (held-bounds d c calls describes).size_is;
  in_range = (held-bounds d c calls describes).in_range;
  full = λ byte. h.decoded_is Root 5 (byte ∷ []) ∙ ap (λ (v : List ℕ). decoded_full d v 5 (byte ∷ [])) held_bytes ∙ (decodings byte).sums_full;
  restarted = λ byte. h.decoded_is AfterFlip 5 (byte ∷ []) ∙ ap (λ (v : List ℕ). decoded_restarted d v 5 (byte ∷ [])) held_bytes ∙ (decodings byte).sums_restarted;
}

-- From what full decoding of the sums answers, which is computed, follows what restarted decoding does: trials 2 and 3 flip 5 and 3, resume at 6 and 5, and
-- save 16 and 13 steps.
pub restarted_agrees : (byte : ℕ) → decoded_restarted d (combined c s.hearing) 5 (byte ∷ []) ≡ (Ok (tally 3 43), 0x80 ∷ [])
unfolding first_where skipped
restarted_agrees byte =
    let full = ap (λ (v : List ℕ). decoded_full d v 5 (0 ∷ [])) held_bytes ∙ (decodings 0).sums_full in
    let x = run_in describes (h.agree 5 1) full (omega arith) in
    let e = accepted-run x full in
    let is : lowest_of_each (single 5) d c (combined c s.hearing) x.made ≡ 5 ∷ 3 ∷ [] =
    ap₂ (λ (v : List ℕ) (m : ℕ). lowest_of_each (single 5) d c v m) held_bytes e.0
    ∙ ap (λ (order : List ℕ). map lowest (take 2 (take 4 (map (λ i. i ∷ []) order)))) (decodings 0).sums_order in
    let steps : x.steps AfterFlip ≡ 43 = omega (arith, x.full_steps, e.0, x.exceeds AfterFlip, ap (λ (js : List ℕ). skipped_over 3 (map (restart_at AfterFlip (mask_of d) 8) js)) is) in
    e.1 AfterFlip byte ∙ ap (λ (s : ℕ). (Ok (tally 3 s), 0x80 ∷ [])) steps

-- in any buffer of the right size the calls leave the sums and count 2
pub buffer_held : (b : List ℕ) → length b ≡ hearing_size → (combined c (state_in (buffer_after (opened_in d b).1 calls)).hearing ≡ sums_v) × ((state_in (buffer_after (opened_in d b).1 calls)).hearing.count ≡ 2)
buffer_held b size =
    let e = buffer-after d b c calls describes size in
    (ap (λ (t : State). combined c t.hearing) e ∙ held_bytes, ap (λ (t : State). t.hearing.count) e ∙ held.count)

-- ---- a buffer that holds them is left by some calls

abbrev pub buffer : List ℕ
buffer = bytes_of twice

abbrev Byte : ℕ → Type 0
Byte b = b < 256

-- bytes, one by one
below : List ℕ → Bool
below [] = true
below (b ∷ v) = ltb b 256 && below v

each_below : (v : List ℕ) → below v ≡ true → Each Byte 0 v
unfolding below
each_below [] e i = omega arith
each_below (b ∷ v) e zero = ltb-true b 256 (and_true (ltb b 256) (below v) e).0
each_below (b ∷ v) e (suc i) = each_below v (and_true (ltb b 256) (below v) e).1 i

padded-bytes : (size : ℕ) (v : List ℕ) → below v ≡ true → Each Byte 0 (padded size v)
padded-bytes size v e = each_append Byte 0 v (replicate (size - length v) 0) (each_below v e) (each-zero Byte (omega arith) (size - length v))

description_size : length twice.description ≡ longest_description
description_size = length-padded longest_description d (omega arith)

values_size : length twice.hearing.values ≡ 2 ^ largest_n
values_size = length-padded (2 ^ largest_n) sums_v (omega arith)

values-bytes : Each Byte 0 twice.hearing.values
unfolding below
values-bytes = padded-bytes (2 ^ largest_n) sums_v refl

twice-coded : code_of_state twice ≡ Ok c
twice-coded = code_of d c describes (hearing_of sums_v 2) (heard_hearing c sums_v sums-inside 1 (omega arith))

-- as a state
pub twice-left : (list : List Call) × (after (opened (description_of twice)).1 list ≡ twice)
twice-left = left_by_some twice c (record { description_size = description_size; values_size = values_size; bytes = values-bytes }) twice-coded

-- as bytes: the calls leave count 2 at its place
buffer-bytes : (i : ℕ) → get_or buffer i 0 < 256
unfolding below
buffer-bytes =
    each_append Byte 0 twice.description (2 ∷ twice.hearing.values) (padded-bytes longest_description d refl)
    (each_append Byte 0 (2 ∷ []) twice.hearing.values (each_below (2 ∷ []) refl) values-bytes)

pub buffer-left : (list : List Call) × (get_or (bytes_of (after (opened (description_of (state_in buffer))).1 list)) longest_description 0 ≡ 2)
buffer-left =
    let left =
    bytes_left buffer c (size_of twice description_size values_size) buffer-bytes
    (ap code_of_state (read_written twice description_size values_size) ∙ twice-coded) in
    (left.0, ap (λ (b : List ℕ). get_or b longest_description 0) left.1 ∙ get_or_at twice.description 2 twice.hearing.values 0 longest_description description_size)
