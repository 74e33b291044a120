-- What an accepted answer says: the peak is the largest magnitude, and the bytes are channel values.
use mathlib.Core.Path.{◌≡◌, sym, ap, ◌∙◌, subst}
use mathlib.Core.List.{List}
use Prim.Native.Nat.{ℕ, ◌≤◌, ◌<◌}
use native.Mathlib.Omega.{arith}
use lib.IntN.{nat_abs}
use lib.Ieee.{Float}
use lib.ListN.{length, get_or}
use Rattle.laws.proofs.Table.{length-table, get_or-table}
use Rattle.channel.specs.Channel.{channel_value, byte_of}
use Rattle.quantiser_level.specs.Level.{level}
use Rattle.channel.proofs.Bytes.{channel_byte}
use Rattle.quantiser_level.proofs.Levels.{level_le}
use Rattle.quantiser.specs.declared.Summary.{Summary}
use Rattle.quantiser.specs.Quantise.{product, peak_of, clipped_of, bytes, quantised}
use Rattle.quantiser.specs.Clauses.{accepted, Quantised}
use Rattle.quantiser.specs.Claims.{WellFormed, Peak}
use Rattle.quantiser.proofs.Numbers.{admitted-number}
use Rattle.quantiser.proofs.WellFormed.{well_formed_answer, well_formed_exactly}
use Rattle.quantiser.proofs.Totals.{peak_number, peak_above, peak_reached}
use Rattle.std.specs.Prelude.{Ok, is_ok}

module _ (scale : Float) (samples : List Float) (output : List ℕ) (s : Summary) (written : List ℕ) (done : quantised scale samples output ≡ (Ok s, written)) where
  abbrev answer : Quantised × List ℕ
  answer = (Ok s, written)

  abbrev p : ℕ → Float
  p = product scale samples

  -- no refusal applied
  admitted : WellFormed scale samples output × (accepted scale samples ≡ answer)
  admitted =
      let w = (well_formed_exactly scale samples output).1 (ap (λ (z : Quantised × List ℕ). is_ok z.0) done) in
      (w, sym (well_formed_answer scale samples output w) ∙ done)

  pub peak_largest : Peak p (length samples) s.peak
  unfolding peak_of
  peak_largest = subst (Peak p (length samples)) same record {
    number = peak_number p (length samples) (admitted-number admitted.0);
    none = λ e. ap (peak_of p) e;
    reached = peak_reached p (length samples);
    above = peak_above p (length samples) (admitted-number admitted.0);
  }
    where
      same : peak_of p (length samples) ≡ s.peak
      same = let e : Ok (record { peak = peak_of p (length samples); clipped = clipped_of p (length samples) }) ≡ Ok s = ap (λ (x : Quantised × List ℕ). x.0) admitted.1 in cc

  -- the bytes are as many as the samples, and channel values all
  written_is : bytes p (length samples) ≡ written
  written_is = ap (λ (x : Quantised × List ℕ). x.1) admitted.1

  pub length-written : length written ≡ length samples
  length-written = sym (ap length written_is) ∙ length-table _ (length samples)

  pub channel_values_lem : (i : ℕ) → i < length written → nat_abs (channel_value (get_or written i 0)) ≤ 31
  channel_values_lem i h =
      let e : get_or written i 0 ≡ byte_of (level (p i)) =
      sym (ap (λ (w : List ℕ). get_or w i 0) written_is) ∙ get_or-table _ (length samples) i 0 (omega (arith, length-written)) in
      rw (e, channel_byte (level (p i)) (level_le (p i))) (level_le (p i))
