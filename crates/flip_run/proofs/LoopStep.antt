-- What a turn of the loop over later trials asks and gives: the next flipped index, the trial's arrays, and its answer.
use mathlib.Core.Path.{◌≡◌, refl, sym, ap, ◌∙◌, subst}
use mathlib.Core.List.{List, []}
use Prim.Native.Nat.{ℕ, ◌+◌, ◌-◌, ◌≤◌}
use native.Mathlib.Omega.{arith}
use lib.IntN.{ℤ}
use lib.ListN.{length, take}
use lib.Seq.{take-take}
use Rattle.arrays.proofs.Sizes.{fits}
use Rattle.bits.specs.Claims.{Bits}
use Rattle.bits.specs.Packing.{packed}
use Rattle.bits.proofs.Lists.{bits-take}
use Rattle.code.specs.declared.Code.{Code}
use Rattle.code.specs.Code.{code_length, information_count}
use Rattle.code.specs.Claims.{Coded}
use Rattle.placing.proofs.Placing.{bits-taken}
use Rattle.values.specs.Values.{mask_rule}
use Rattle.values.specs.Claims.{Within}
use Rattle.values.proofs.Bounds.{within_more}
use Rattle.channel.specs.Channel.{channel_values, first_outside}
use Rattle.channel.proofs.Outside.{all-inside}
use Rattle.pass_tree.proofs.Leaves.{within-leaves}
use Rattle.pass_ends.specs.Clauses.{Arrays, arrays, Whole}
use Rattle.flip_order.specs.Clauses.{most_magnitude, KeysPre}
use Rattle.flip_trial.specs.Trial.{message_in}
use Rattle.flip_trial.specs.Clauses.{TrialPre, FirstLeaves}
use Rattle.flip_run.specs.declared.Tally.{Tally}
use Rattle.flip_run.specs.Trials.{flip_order, Verdict, passed, failed, answer_of, tally}
use Rattle.flip_run.specs.Clauses.{FramePre, PassedBits, answered, Ran}
use Rattle.flip_run.proofs.FlipOrder.{length_order}
use Rattle.std.specs.Prelude.{Ok, Result}

-- channel values, none of them outside its range
pub values-inside : (channel : List ℕ) → first_outside channel ≡ length channel → Within 31 (channel_values channel)
values-inside channel inside = all-inside channel (omega (arith, inside))

-- the arrays of any trial
pub trial_on : {mask : List ℕ} {c : Code} {channel : List ℕ} → FramePre mask c channel → {room : ℕ} {rules : List ℕ} {a : Arrays} → length rules ≡ room → Whole room a → TrialPre room c channel rules a
trial_on {channel} on r w = record {
  n_least = omega (arith, on.coded.n_least);
  n_most = on.coded.n_most;
  long = on.channel_size;
  small = values-inside channel on.in_range;
  rules_whole = r;
  whole = w;
}

-- the arrays of a trial after its check, which takes the message out into the place of the sums
pub arrays_again : {room : ℕ} {a : Arrays} {sums : List ℕ} → Whole room a → length sums ≡ room → Whole room (arrays a.work a.bits sums a.leaves)
arrays_again w e = record { work = w.work; bits = w.bits; sums = e; leaves = w.leaves }

module _ {mask : List ℕ} {c : Code} {channel : List ℕ} (on : FramePre mask c channel) where
  pub order_long : {limit : ℕ} → limit ≤ information_count c + 1 → limit - 1 ≤ length (flip_order mask c (channel_values channel))
  order_long l = omega (arith, length_order on.coded (channel_values channel), l)

  -- the keys of trial 1's leaf values fit
  pub keys_pre : {room : ℕ} {values : List ℤ} → code_length c ≤ room → FirstLeaves room mask c channel values → KeysPre mask values
  keys_pre {values = values} room kept = record {
    there = omega (arith, on.coded.mask_size, room, kept.whole);
    fits = omega (arith, on.coded.mask_size, fits on.coded.n_most);
    small =
        subst (Within most_magnitude) (sym (ap (λ (m : ℕ). take m values) on.coded.mask_size ∙ kept.values))
        (within_more (omega (arith, fits on.coded.n_most)) (within-leaves c.n 31 [] (mask_rule mask) (channel_values channel) (values-inside channel on.in_range)));
  }

-- a trial passed, and its message stands in a room that begins with it
pub ran_passed : {mask : List ℕ} {c : Code} → Coded mask c → {u : List ℕ} (bits message : List ℕ) {trial steps : ℕ} → take (code_length c) bits ≡ u → take (information_count c) message ≡ message_in mask c (take (code_length c) bits) → Bits u → Ran mask c (passed trial steps u) (Ok (tally trial steps)) message
ran_passed {mask} {c} coded {u} bits message own is p =
    let payload : take c.k message ≡ take c.k (message_in mask c u) = sym (take-take c.k (information_count c) message (omega arith)) ∙ ap (take c.k) (is ∙ ap (message_in mask c) own) in
    (refl, payload, subst Bits (sym payload) (bits-take c.k (message_in mask c u) (bits-taken mask u (code_length c) p)))

-- what a run ended with is answered as its verdict is
pub ran_answers : (mask : List ℕ) (c : Code) (output : List ℕ) (v : Verdict) (e : Result Tally Tally) (message : List ℕ) → Ran mask c v e message → answered c.k e message output ≡ answer_of mask c output v
ran_answers mask c output (passed trial steps bits) e message r =
    ap (λ (x : Result Tally Tally). answered c.k x message output) r.0 ∙ ap (λ (xs : List ℕ). (Ok (tally trial steps), packed xs)) r.1
ran_answers mask c output (failed made steps) e message r = ap (λ (x : Result Tally Tally). answered c.k x message output) r

pub ran_bits : (mask : List ℕ) (c : Code) (v : Verdict) (e : Result Tally Tally) (message : List ℕ) → Ran mask c v e message → PassedBits e (take c.k message)
ran_bits mask c (passed trial steps bits) e message r = subst (λ (x : Result Tally Tally). PassedBits x (take c.k message)) (sym r.0) r.2
ran_bits mask c (failed made steps) e message r = subst (λ (x : Result Tally Tally). PassedBits x (take c.k message)) (sym r) tt
