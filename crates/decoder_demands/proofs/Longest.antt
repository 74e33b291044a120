-- Demand 3 at the largest n, on any values: with T = 1 full decoding reports the steps of one whole pass.
use mathlib.Core.Path.{◌≡◌, refl, sym, ◌∙◌}
use mathlib.Core.List.{List, ◌∷◌}
use Prim.Native.Nat.{ℕ, ◌+◌, ◌-◌, ◌/◌, ◌%◌}
use native.Mathlib.Omega.{arith}
use lib.ListN.{length, replicate}
use Rattle.refusal.specs.Judge.{judge, refused_or}
use Rattle.arrays.specs.Sizes.{largest_n}
use Rattle.arrays.specs.Claims.{longest, longest_bytes, most_steps}
use Rattle.bits.specs.Mask.{ones_below}
use Rattle.bits.specs.Packing.{bytes_for}
use Rattle.code.specs.declared.Code.{Code}
use Rattle.code.specs.Description.{describe_up_to, describe}
use Rattle.channel.specs.Channel.{first_outside}
use Rattle.decoder.specs.Decoder.{single, WellFormed}
use Rattle.decoder.proofs.Decoder.{spelt_out}
use Rattle.decoder_demands.specs.Demand3.{BothDecode}
use Rattle.decoder_demands.proofs.Demand3.{demand_3}
use Rattle.std.specs.Prelude.{Ok}

-- D with the largest n: each byte of its mask is `E8`
abbrev pub long_d : List ℕ
long_d = (8 + longest_bytes) % 256 ∷ (8 + longest_bytes) / 256 ∷ 0x01 ∷ 0x00 ∷ largest_n ∷ 0x01 ∷ 0x01 ∷ 0x00 ∷ replicate longest_bytes 0xE8

-- K is N/2, and r is 1
abbrev pub long_code : Code
long_code = record { n = largest_n; r = 1; polynomial = 1; start = 0; k = longest / 2 - 1 }

long-describes : describe long_d ≡ Ok long_code
unfolding describe_up_to judge refused_or ones_below
long-describes = refl

module _ (channel output output' : List ℕ) (size : length channel ≡ longest) (inside : first_outside channel ≡ longest) (room : length output ≡ bytes_for long_code.k) (room' : length output' ≡ bytes_for long_code.k) where
  well_formed : (o : List ℕ) → length o ≡ bytes_for long_code.k → WellFormed (single 1) long_d long_code channel o
  well_formed o e = record {
    described = long-describes;
    fine = (spelt_out (single 1) long_code channel o).0 (record { channel_size = size; in_range = inside ∙ sym size; allowed = (omega arith, omega arith); output_size = e });
  }

  pub both : BothDecode long_d long_code channel 1 output output'
  both = demand_3 long_d long_code channel 1 output output' (well_formed output room) (well_formed output' room')

  -- n · N steps of one trial
  pub longest_steps : both.full ≡ most_steps
  longest_steps = omega (arith, both.full_steps, both.each, both.most)
