-- Document 02, request 2.6: two weak hearings of one frame, of which neither decodes with the largest T, by computation; and what is held after
-- both, from the theorems, whose premises are met.
use mathlib.Core.Path.{◌≡◌, refl, sym, ap, ◌∙◌, subst}
use mathlib.Core.Bool.{Bool, true, false}
use mathlib.Core.List.{List, [], ◌∷◌, map, map-map}
use Prim.Native.Nat.{ℕ, ◌≤◌}
use borrow.Author.Tests.{ltb-true}
use lib.Dec.{ltb}
use lib.IntN.{ℤ, nat_abs}
use lib.ListN.{length, get_or, replicate, length-replicate, get_or-map}
use Rattle.laws.specs.First.{first_where}
use Rattle.laws.specs.Table.{table}
use Rattle.laws.proofs.Table.{get_or-table}
use Rattle.laws.specs.Insert.{insert_by, sort_by}
use Rattle.refusal.specs.Judge.{judge, refused_or}
use Rattle.bits.specs.Bit.{number}
use Rattle.bits.specs.Mask.{ones_below}
use Rattle.bits.specs.Packing.{packed, unpacked}
use Rattle.code.specs.Description.{describe_up_to}
use Rattle.crc.specs.Check.{check_of}
use Rattle.transform.specs.Transform.{covers, parity, transformed, xors}
use Rattle.placing.specs.Place.{taken}
use Rattle.values.specs.Values.{hard, f, g, left_values, right_values}
use Rattle.channel.specs.Channel.{channel_value, channel_values}
use Rattle.pass_tree.specs.Node.{node}
use Rattle.flip_order.specs.Order.{information}
use Rattle.flip_trial.specs.declared.Restart.TheVariants.{Root, AfterFlip}
use Rattle.flip_run.specs.Trials.{run, tally}
use Rattle.decoder.specs.Decoder.{single, WellFormed, decoded_under, decoded_as, decoded_full, decoded_restarted}
use Rattle.decoder.proofs.Decoder.{spelt_out}
use Rattle.decoder.proofs.Examples.{wide_d, wide_code, vector}
use Rattle.decoder_demands.specs.Noiseless.{Received}
use Rattle.decoder_demands.proofs.Noiseless.{noiseless_decoding}
use Rattle.decoder_demands.proofs.Instances.{describes, encodes_80, small}
use Rattle.hearing.specs.Hearing.{combined}
use Rattle.hearing_state.specs.State.{State, opened, decoded_held_with}
use Rattle.hearing_buffer.specs.Lent.{hearing_size, state_in, opened_in, full_in, restarted_in}
use Rattle.hearing_demands.specs.Repeats.{Call, add, clear, after, accepted_in, Holds, buffer_after}
use Rattle.hearing_demands.specs.Claims.{Bounds}
use Rattle.hearing_demands.proofs.HeldAfter.{held_after_lem, held-bounds}
use Rattle.hearing_demands.proofs.Buffer.{buffer-after}
use Rattle.std.specs.Prelude.{Err, Ok}
use Rattle.flip_run.specs.declared.DecodingError.TheVariants.{NonePassed}

-- 9, 3, −21, 9, 13, 8, −3, −17
abbrev pub first_v : List ℕ
first_v = 0x09 ∷ 0x03 ∷ 0xEB ∷ 0x09 ∷ 0x0D ∷ 0x08 ∷ 0xFD ∷ 0xEF ∷ []

-- −10, 3, 10, 12, −9, −12, 9, −17
abbrev pub second_v : List ℕ
second_v = 0xF6 ∷ 0x03 ∷ 0x0A ∷ 0x0C ∷ 0xF7 ∷ 0xF4 ∷ 0x09 ∷ 0xEF ∷ []

-- their sums: −1, 6, −11, 21, 4, −4, 6, and −34, clipped to −31
abbrev pub sums_v : List ℕ
sums_v = 0xFF ∷ 0x06 ∷ 0xF5 ∷ 0x15 ∷ 0x04 ∷ 0xFC ∷ 0x06 ∷ 0xE1 ∷ []

-- T = 5 is the largest that 14 allows; with a smaller one fewer of the same trials are made. Whatever byte the output held
abbrev pub Neither : ℕ → List ℕ → Type 0
Neither byte v =
    (decoded_full wide_d v 5 (byte ∷ []) ≡ (Err (NonePassed (tally 5 120)), byte ∷ [])) × (decoded_restarted wide_d v 5 (byte ∷ []) ≡ (Err (NonePassed (tally 5 50)), byte ∷ []))

pub neither_decodes : (byte : ℕ) → Neither byte first_v × Neither byte second_v
unfolding first_where table judge refused_or number ones_below packed describe_up_to check_of covers parity transformed xors taken f g left_values right_values channel_value node information insert_by sort_by run decoded_under decoded_as
neither_decodes byte = ((refl, refl), (refl, refl))

-- another frame is heard and cleared; then both hearings, and between them a vector that is too short, and one with a value out of range
abbrev pub calls : List Call
calls = add vector ∷ clear ∷ add first_v ∷ add (0x01 ∷ []) ∷ add (0x20 ∷ 0 ∷ 0 ∷ 0 ∷ 0 ∷ 0 ∷ 0 ∷ 0 ∷ []) ∷ add second_v ∷ []

both-accepted : accepted_in wide_code [] calls ≡ first_v ∷ second_v ∷ []
unfolding first_where judge refused_or channel_value
both-accepted = refl

-- whatever state holds both
module _ (s : State) (h : Holds wide_d wide_code s (first_v ∷ second_v ∷ [])) (b : Bounds wide_code s (first_v ∷ second_v ∷ [])) where
  abbrev held : List ℕ
  held = combined wide_code s.hearing

  abbrev sums : List ℤ
  sums = channel_values sums_v

  values : channel_values held ≡ sums
  unfolding channel_value table
  values = h.values_are

  -- they have the signs of the codeword `A5` of payload `80`
  signs : map (λ b. hard (channel_value b)) held ≡ unpacked (0xA5 ∷ []) 8
  unfolding channel_value table unpacked
  signs = sym (map-map hard channel_value held) ∙ ap (map hard) values

  strengths : map (λ b. ltb 0 (nat_abs (channel_value b))) held ≡ table (λ _. true) 8
  unfolding channel_value table
  strengths = sym (map-map (λ z. ltb 0 (nat_abs z)) channel_value held) ∙ ap (map (λ z. ltb 0 (nat_abs z))) values

  received : Received 8 wide_d (0x80 ∷ []) held
  unfolding channel_value
  received = record {
    bytes = small;
    buffer = 0 ∷ [];
    codeword = 0xA5 ∷ [];
    encodes = encodes_80;
    sign = λ j l. sym (get_or-map (λ b. hard (channel_value b)) held j 0) ∙ ap (λ (x : List ℕ). get_or x j 0) signs;
    strength = λ j l.
        ltb-true 0 (nat_abs (channel_value (get_or held j 0)))
        (sym (get_or-map (λ b. ltb 0 (nat_abs (channel_value b))) held j 0) ∙ ap (λ (x : List Bool). get_or x j false) strengths
        ∙ get_or-table (λ _. true) 8 j false l);
  }

  -- for every T, whatever byte the output held
  pub both_decode : (T byte : ℕ) → 1 ≤ T → T ≤ 5
      → (decoded_held_with Root s T (byte ∷ []) ≡ (Ok (tally 1 24), 0x80 ∷ [])) × (decoded_held_with AfterFlip s T (byte ∷ []) ≡ (Ok (tally 1 24), 0x80 ∷ []))
  both_decode T byte least most =
      let well : WellFormed (single T) wide_d wide_code held (byte ∷ []) = record {
        described = describes;
        fine = (spelt_out (single T) wide_code held (byte ∷ [])).0
            (record { channel_size = b.size_is; in_range = b.in_range ∙ sym b.size_is; allowed = (least, most); output_size = refl });
      } in
      let x = noiseless_decoding wide_d wide_code (0x80 ∷ []) held T (byte ∷ []) received well in
      (h.decoded_is Root T (byte ∷ []) ∙ x.0, h.decoded_is AfterFlip T (byte ∷ []) ∙ x.1)

-- the state goes from call to call
abbrev pub heard_twice : State
heard_twice = after (opened wide_d).1 calls

holds-both : Holds wide_d wide_code heard_twice (first_v ∷ second_v ∷ [])
holds-both = subst (Holds wide_d wide_code heard_twice) both-accepted (held_after_lem wide_d wide_code calls describes)

in_bounds : Bounds wide_code heard_twice (first_v ∷ second_v ∷ [])
in_bounds = subst (Bounds wide_code heard_twice) both-accepted (held-bounds wide_d wide_code calls describes)

pub twice-counted : heard_twice.hearing.count ≡ 2
twice-counted = holds-both.count_is

pub twice_decodes : (T byte : ℕ) → 1 ≤ T → T ≤ 5
    → (decoded_held_with Root heard_twice T (byte ∷ []) ≡ (Ok (tally 1 24), 0x80 ∷ [])) × (decoded_held_with AfterFlip heard_twice T (byte ∷ []) ≡ (Ok (tally 1 24), 0x80 ∷ []))
twice_decodes = both_decode heard_twice holds-both in_bounds

-- and in any buffer of the right size; a buffer of that size exists
module _ (b : List ℕ) (size : length b ≡ hearing_size) where
  abbrev buffer : List ℕ
  buffer = buffer_after (opened_in wide_d b).1 calls

  pub buffer_decodes : (T byte : ℕ) → 1 ≤ T → T ≤ 5
      → (full_in buffer T (byte ∷ []) ≡ (Ok (tally 1 24), 0x80 ∷ [])) × (restarted_in buffer T (byte ∷ []) ≡ (Ok (tally 1 24), 0x80 ∷ []))
  buffer_decodes =
      let same = sym (buffer-after wide_d b wide_code calls describes size) in
      both_decode (state_in buffer) (subst (λ (s : State). Holds wide_d wide_code s (first_v ∷ second_v ∷ [])) same holds-both)
      (subst (λ (s : State). Bounds wide_code s (first_v ∷ second_v ∷ [])) same in_bounds)

pub a_buffer : length (replicate {A = ℕ} hearing_size 0) ≡ hearing_size
a_buffer = length-replicate {A = ℕ} hearing_size 0
