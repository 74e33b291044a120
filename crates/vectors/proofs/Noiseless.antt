-- A codeword of eight bits whose values all have magnitude 1 decodes on trial 1, by the theorems on noiseless decoding.
use mathlib.Core.Path.{◌≡◌, refl, sym, ap, ◌∙◌}
use mathlib.Core.List.{List, [], ◌∷◌, map}
use Prim.Native.Nat.{ℕ, ◌≤◌}
use native.Mathlib.Omega.{arith}
use lib.IntN.{nat_abs}
use lib.ListN.{get_or, get_or-map}
use Rattle.laws.specs.First.{first_where}
use Rattle.laws.specs.Table.{table}
use Rattle.laws.proofs.Table.{get_or-table}
use Rattle.bits.specs.Packing.{unpacked}
use Rattle.values.specs.Values.{hard}
use Rattle.channel.specs.Channel.{channel_value, first_outside}
use Rattle.flip_trial.specs.declared.Restart.{Restart}
use Rattle.decoder.specs.Decoder.{Decoder, single, sets, most_limit, WellFormed, decoded_as, decoded_full, decoded_restarted}
use Rattle.decoder.specs.Claims.{Allowed}
use Rattle.decoder.proofs.Decoder.{spelt_out}
use Rattle.decoder.proofs.Examples.{wide_d, wide_code}
use Rattle.decoder_demands.specs.Noiseless.{Received}
use Rattle.decoder_demands.proofs.Noiseless.{noiseless, noiseless_decoding}
use Rattle.decoder_demands.proofs.Instances.{describes, encodes_80, small}
use Rattle.flip_run.specs.Trials.{tally}
use Rattle.std.specs.Prelude.{Ok}

abbrev noiseless80 : List ℕ
noiseless80 = 0xFF ∷ 0x01 ∷ 0xFF ∷ 0x01 ∷ 0x01 ∷ 0xFF ∷ 0x01 ∷ 0xFF ∷ []

noiseless_inside : first_outside noiseless80 ≡ 8
unfolding first_where channel_value
noiseless_inside = refl

well_formed : (p : Decoder) → Allowed p wide_code → (byte : ℕ) → WellFormed p wide_d wide_code noiseless80 (byte ∷ [])
well_formed p allowed byte = record {
  described = describes;
  fine = (spelt_out p wide_code noiseless80 (byte ∷ [])).0 (record { channel_size = refl; in_range = noiseless_inside; allowed = allowed; output_size = refl });
}

signs : map (λ b. hard (channel_value b)) noiseless80 ≡ unpacked (0xA5 ∷ []) 8
unfolding channel_value table unpacked
signs = refl

strengths : map (λ b. nat_abs (channel_value b)) noiseless80 ≡ table (λ j. 1) 8
unfolding channel_value table
strengths = refl

received : Received 8 wide_d (0x80 ∷ []) noiseless80
unfolding channel_value
received = record {
  bytes = small;
  buffer = 0 ∷ [];
  codeword = 0xA5 ∷ [];
  encodes = encodes_80;
  sign = λ j l. sym (get_or-map (λ b. hard (channel_value b)) noiseless80 j 0) ∙ ap (λ (x : List ℕ). get_or x j 0) signs;
  strength = λ j l.
      omega (arith, sym (get_or-map (λ b. nat_abs (channel_value b)) noiseless80 j 0) ∙ ap (λ (x : List ℕ). get_or x j 0) strengths ∙ get_or-table (λ j. 1) 8 j 0 l);
}

-- for every T, whatever byte the output held
pub decodes_80 : (T byte : ℕ) → 1 ≤ T → T ≤ 5 → (decoded_full wide_d noiseless80 T (byte ∷ []) ≡ (Ok (tally 1 24), 0x80 ∷ [])) × (decoded_restarted wide_d noiseless80 T (byte ∷ []) ≡ (Ok (tally 1 24), 0x80 ∷ []))
decodes_80 T byte least most = noiseless_decoding wide_d wide_code (0x80 ∷ []) noiseless80 T (byte ∷ []) received (well_formed (single T) (least, most) byte)

-- every restart by sets, for every w and every T
pub sets_decode_80 : (r : Restart) (w T byte : ℕ) → 1 ≤ w → w ≤ 3 → 1 ≤ T → T ≤ most_limit w wide_code → decoded_as (sets w T) r wide_d noiseless80 (byte ∷ []) ≡ (Ok (tally 1 24), 0x80 ∷ [])
sets_decode_80 r w T byte w-least w-most least most =
    noiseless (sets w T) r wide_d wide_code (0x80 ∷ []) noiseless80 (byte ∷ []) received (well_formed (sets w T) (w-least, w-most, least, most) byte)
