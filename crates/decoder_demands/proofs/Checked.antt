-- What a decoder accepts passed its check and is the codeword of what is written, and refusal 16 comes after trials that all failed.
use mathlib.Core.Path.{◌≡◌, refl, sym, ap, ◌∙◌, subst}
use mathlib.Core.Bool.{true}
use mathlib.Core.List.{List, [], ◌∷◌, map}
use Prim.Native.Nat.{ℕ, zero, suc, ◌-◌, ◌<◌, ◌≤◌}
use native.Mathlib.Omega.{arith}
use lib.IntN.{ℤ}
use lib.ListN.{length, get_or, take}
use Rattle.bits.specs.Claims.{Bits}
use Rattle.bits.specs.Mask.{mask_bit}
use Rattle.bits.specs.Packing.{packed}
use Rattle.code.specs.declared.Code.{Code}
use Rattle.code.specs.Code.{code_length}
use Rattle.code.specs.Description.{mask_of, describe}
use Rattle.channel.specs.Channel.{channel_values}
use Rattle.pass_tree.specs.Node.{Out}
use Rattle.encoder.specs.Encode.{encoded}
use Rattle.flip_trial.specs.declared.Restart.{Restart}
use Rattle.flip_trial.specs.Trial.{lowest, restart_at, later_trial, message_in, trial_passes}
use Rattle.flip_trial.proofs.Bounds.{first_bits, later-bits}
use Rattle.decoder.specs.Decoder.{Decoder, flips_of, trials_of, decoded_as}
use Rattle.decoder.proofs.Decoder.{answer-fine, under-code}
use Rattle.decoder_demands.specs.Checked.{trial_bits, OnlyChecked, AfterAll}
use Rattle.decoder_demands.specs.Claims.{PassedAt, bits_of_trial}
use Rattle.decoder_demands.proofs.Answers.{run-accepts, run_fails}
use Rattle.decoder_demands.proofs.Codeword.{length_first_bits, length_later_bits, first-frozen, later-frozen, encodes_back}
use Rattle.decoder_demands.proofs.Flips.{flips_each}
use Rattle.decoder_demands.proofs.Trials.{FlipsEach, length-trials_of}
use Rattle.std.specs.Prelude.{Err, Ok}
use Rattle.flip_run.specs.Trials.{tally}
use Rattle.flip_run.specs.declared.DecodingError.TheVariants.{NonePassed}

-- bits that a message may have been placed in: one for each index, and zeros at the frozen ones
record Placed (mask : List ℕ) (c : Code) (u : List ℕ) : Type 0 where
  size : length u ≡ code_length c
  bits : Bits u
  frozen : (i : ℕ) → i < code_length c → mask_bit mask i ≡ 0 → get_or u i 0 ≡ 0

module _ (mask : List ℕ) (c : Code) (v : List ℤ) (restart : Restart) where
  -- those of later trials
  later-placed : (flips : List (List ℕ)) → FlipsEach mask c flips → (a : ℕ) → a < length flips → Placed mask c (get_or (map (λ o. o.bits) (map (later_trial restart mask c v) flips)) a [])
  later-placed [] f a l = absurd (omega arith)
  later-placed (is ∷ flips) f zero l =
      let on = f 0 (omega arith) in
      record {
        size = length_later_bits mask c v is on restart;
        bits = later-bits mask c v is (restart_at restart mask (code_length c) (lowest is));
        frozen = later-frozen mask c v is on restart;
      }
  later-placed (is ∷ flips) f (suc a) l = later-placed flips (λ b k. f (suc b) (omega arith)) a (omega arith)

  -- those of every trial
  trial-placed : (p : Decoder) (t : ℕ) → 1 ≤ t → t ≤ length (trials_of p restart mask c v) → Placed mask c (trial_bits p restart mask c v t)
  trial-placed p zero l m = absurd (omega arith)
  trial-placed p (suc zero) l m =
      record { size = length_first_bits mask c v; bits = first_bits mask c v; frozen = first-frozen mask c v }
  trial-placed p (suc (suc t)) l m =
      let e : suc t ≡ suc (suc t) - 1 = omega arith in
      subst (λ (k : ℕ). Placed mask c (get_or (map (λ o. o.bits) (trials_of p restart mask c v)) k [])) e
      (later-placed (flips_of p mask c v) (flips_each mask c v p) t (omega (arith, length-trials_of mask c v restart (flips_of p mask c v))))

-- the trial that passed, in full
pub passed-at : (p : Decoder) (restart : Restart) (d : List ℕ) (c : Code) (channel output : List ℕ) (trial steps : ℕ) (payload : List ℕ)
    → describe d ≡ Ok c → decoded_as p restart d channel output ≡ (Ok (tally trial steps), payload)
    → (bits : List ℕ) × PassedAt (trial_passes (mask_of d) c) (trials_of p restart (mask_of d) c (channel_values channel)) trial steps bits × (payload ≡ packed (take c.k (message_in (mask_of d) c bits)))
passed-at p restart d c channel output trial steps payload code e =
    run-accepts (mask_of d) c output (trials_of p restart (mask_of d) c (channel_values channel)) trial steps payload
    (answer-fine p restart (mask_of d) c channel output (Ok (tally trial steps), payload) refl (sym (under-code p restart d channel output c code) ∙ e)).1

-- trials are counted from 1
from_one : (os : List Out) (t : ℕ) → 1 ≤ t → bits_of_trial os t ≡ get_or (map (λ o. o.bits) os) (t - 1) []
from_one os zero l = absurd (omega arith)
from_one os (suc t) l =
    let e : t ≡ suc t - 1 = omega arith in
    ap (λ (k : ℕ). get_or (map (λ o. o.bits) os) k []) e

pub only_checked : OnlyChecked
only_checked p restart d c channel output trial steps payload code e =
    let mask : List ℕ = mask_of d in
    let v : List ℤ = channel_values channel in
    let x = passed-at p restart d c channel output trial steps payload code e in
    let same : x.0 ≡ trial_bits p restart mask c v trial = x.1.bits_are ∙ from_one (trials_of p restart mask c v) trial x.1.least in
    let passes : trial_passes mask c (trial_bits p restart mask c v trial) ≡ true = sym (ap (trial_passes mask c) same) ∙ x.1.passes in
    let u = trial-placed mask c v restart p trial x.1.least x.1.most in
    let written = x.2 ∙ ap (λ (bits : List ℕ). packed (take c.k (message_in mask c bits))) same in (
      passes,
      λ o l. ap (λ (y : List ℕ). encoded d y o) written ∙ encodes_back d code (trial_bits p restart mask c v trial) u.size u.bits u.frozen passes o l,
    )

pub after-all : AfterAll
after-all p restart d c channel output made steps bytes code e =
    let os : List Out = trials_of p restart (mask_of d) c (channel_values channel) in
    let x = run_fails (mask_of d) c output os made steps bytes
    (answer-fine p restart (mask_of d) c channel output (Err (NonePassed (tally made steps)), bytes) refl (sym (under-code p restart d channel output c code) ∙ e)).1 in
    (x.0.all, λ t l m. sym (ap (trial_passes (mask_of d) c) (from_one os t l)) ∙ x.0.each t l (omega (arith, x.0.all)))
