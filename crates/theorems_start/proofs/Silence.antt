-- Silence: zero values decode to zeros, and the check of zeros is zero exactly if the start is. Bits pass with at most one
-- start.
use mathlib.Core.Path.{◌≡◌, refl, sym, ap, ap₂, ◌∙◌}
use mathlib.Core.Bool.{true, false, true≢false}
use mathlib.Core.Logic.{⊎_elim}
use mathlib.Core.List.{List, [], ◌∷◌, ◌++◌, map}
use Prim.Native.Nat.{ℕ, zero, suc, ◌+◌, ◌-◌, ◌*◌, ◌^◌, ◌<◌, ◌≤◌}
use native.Mathlib.Nat.{zero-add, zero-mul}
use native.Mathlib.Omega.{arith}
use lib.Dec.{ltb}
use lib.IntN.{ℤ, pos, negsuc, nat_abs}
use lib.ListN.{length, replicate, get_or, take, drop, length-map, length-replicate, replicate-append-replicate, get_or-map}
use Rattle.laws.proofs.First.{first-is}
use Rattle.laws.proofs.Segment.{take-replicate}
use Rattle.laws.proofs.Table.{get_or-table}
use Rattle.refusal.specs.Judge.{differs, judge}
use Rattle.refusal.proofs.Judge.{judge-none, judge_no, append-fine}
use Rattle.refusal.proofs.Tests.{differs_no}
use Rattle.bits.specs.Bit.{bit, bits_of}
use Rattle.bits.specs.Mask.{mask_bit, ones_below}
use Rattle.bits.specs.Packing.{bytes_for, packed}
use Rattle.bits.proofs.BitsOf.{length-bits_of, bits_of-zero, bits_of-table, bits_of-only}
use Rattle.bits.specs.Claims.{Bits}
use Rattle.bits.proofs.Lists.{bits-take, bits_of_lem}
use Rattle.bits.proofs.Mask.{mask_cases}
use Rattle.code.specs.declared.Code.{Code}
use Rattle.code.specs.Code.{code_length, information_count, divisor, start_bits}
use Rattle.code.specs.Description.{mask_of, describe}
use Rattle.code.specs.Claims.{Described}
use Rattle.code.proofs.Facts.{described}
use Rattle.crc.specs.Check.{check_of, passes}
use Rattle.crc.proofs.Message.{same_iff, check_passes, changed_check_fails}
use Rattle.crc.proofs.Starts.{lowest, check_start, check_zeros, zeros_check}
use Rattle.placing.specs.Place.{taken}
use Rattle.placing.proofs.Placing.{taken_one, taken_none, bits-taken}
use Rattle.values.specs.Values.{Rule, decided, mask_rule}
use Rattle.values.specs.Claims.{Within}
use Rattle.values.proofs.Rules.{rule_usual, rule-frozen}
use Rattle.channel.specs.Channel.{channel_value, channel_values, first_outside, channel_refusals}
use Rattle.channel.proofs.Judge.{channel_fine}
use Rattle.pass_tree.specs.Node.{node}
use Rattle.pass_tree.proofs.Decisions.{bit-decided}
use Rattle.pass_tree.proofs.Leaves.{within-leaves}
use Rattle.pass_tree.proofs.Steps.{steps_whole}
use Rattle.flip_trial.specs.declared.Restart.{Restart}
use Rattle.flip_trial.specs.Trial.{first_trial, restart_at, message_in, trial_passes}
use Rattle.flip_run.specs.Trials.{answer_of, tally}
use Rattle.decoder.specs.Decoder.{Decoder, single, sets, own_refusals, refusals_of, trials_of, decoded_as}
use Rattle.decoder.proofs.Decoder.{fine-answer, under-code}
use Rattle.decoder_demands.specs.Agreement.{skipped_over, lowest_of_each, SameRun}
use Rattle.decoder_demands.specs.Claims.{PassedAt}
use Rattle.decoder_demands.proofs.Run.{run-first}
use Rattle.decoder_demands.proofs.Agreement.{run_of}
use Rattle.decoder_demands.proofs.Checked.{passed-at}
use Rattle.theorems_start.specs.Silence.{silence, Trial1Fails, SilenceFails, SilenceLater}
use Rattle.theorems_start.specs.Claims.{SilenceAccepted, starting_at, TrialsAlike, OneStart}
use Rattle.std.specs.Prelude.{Err, Ok}
use Rattle.flip_run.specs.declared.DecodingError.TheVariants.{NonePassed}
use Rattle.refusal.specs.declared.Refusal.TheVariants.{OutputLength}

-- ---- zero values

get_or-same : (n i a : ℕ) → get_or (replicate n a) i a ≡ a
get_or-same zero i a = refl
get_or-same (suc n) zero a = refl
get_or-same (suc n) (suc i) a = get_or-same n i a

module _ (size : ℕ) where
  abbrev zeros : List ℕ
  zeros = replicate size 0

  value-zero : (k : ℕ) → get_or (channel_values zeros) k (pos 0) ≡ pos 0
  unfolding channel_value
  value-zero k = get_or-map channel_value zeros k 0 ∙ ap channel_value (get_or-same size k 0)

  none : Within 0 (channel_values zeros)
  none = record { at = λ k. omega (arith, ap nat_abs (value-zero k)) }

  -- each is in range
  inside : first_outside zeros ≡ length zeros
  unfolding channel_value
  inside =
      first-is (λ i. ltb 31 (nat_abs (channel_value (get_or zeros i 0)))) (length zeros) (length zeros) (omega arith)
      (λ k l. ap (λ (b : ℕ). ltb 31 (nat_abs (channel_value b))) (get_or-same size k 0)) (λ l. absurd (omega arith))

-- no value but 0 has magnitude 0
zero-value : (z : ℤ) → nat_abs z ≤ 0 → z ≡ pos 0
zero-value (pos zero) l = refl
zero-value (pos (suc a)) l = absurd (omega arith)
zero-value (negsuc a) l = absurd (omega arith)

-- a bit that is decided at value 0
decided-zero : (mask : List ℕ) (i : ℕ) → decided (mask_rule mask i) (pos 0) ≡ 0
decided-zero mask i =
    ⊎_elim
    (λ z. ap (λ (r : Rule). decided r (pos 0)) (rule-frozen mask i z))
    (λ o. ap (λ (r : Rule). decided r (pos 0)) (rule_usual mask i o))
    (mask_cases mask i)

-- a plain pass on zero values decides zeros
first-zero : (mask : List ℕ) (c : Code) (i : ℕ) → i < code_length c → get_or (first_trial mask c (channel_values (silence c))).bits i 0 ≡ 0
first-zero mask c i l =
    let v = channel_values (silence c) in
    let leaf = (within-leaves c.n 0 [] (mask_rule mask) v (none (code_length c))).at i in
    let still : nat_abs (get_or (node c.n [] (mask_rule mask) v).leaves i (pos 0)) ≤ 0 = omega (arith, leaf, zero-mul (code_length c)) in
    bit-decided c.n [] (mask_rule mask) v (omega arith) i i (zero-add i) l
    ∙ ap (decided (mask_rule mask i)) (zero-value _ still)
    ∙ decided-zero mask i

-- the message that is taken out of zeros
taken-zeros : (mask u : List ℕ) (n : ℕ) → ((i : ℕ) → i < n → get_or u i 0 ≡ 0) → taken mask u n ≡ replicate (ones_below mask n) 0
unfolding taken ones_below
taken-zeros mask u zero h = refl
taken-zeros mask u (suc n) h =
    let before = taken-zeros mask u n (λ i l. h i (omega arith)) in
    ⊎_elim
    (λ z.
    let same : ones_below mask n ≡ ones_below mask n + mask_bit mask n = omega arith in
    taken_none mask u n z ∙ before ∙ ap (λ (m : ℕ). replicate m 0) same)
    (λ o.
    taken_one mask u n o
    ∙ ap₂ (λ (xs : List ℕ) (x : ℕ). xs ++ (x ∷ [])) before (h n (omega arith))
    ∙ replicate-append-replicate (ones_below mask n) 1 0 ∙ ap (λ (m : ℕ). replicate (ones_below mask n + m) 0) (sym o))
    (mask_cases mask n)

-- ---- the check of zeros

-- the polynomial's coefficient of z^0
lowest-bit : (r p : ℕ) → 1 ≤ r → lowest (bits_of r p) ≡ bit p 0
lowest-bit r p l =
    let at : length (bits_of r p) - 1 ≡ r - 1 = ap (λ (n : ℕ). n - 1) (length-bits_of r p) in
    let last : r - (r - 1 + 1) ≡ 0 = omega arith in
    ap₂ (λ (x : List ℕ) (i : ℕ). get_or x i 0) (sym (bits_of-table r p)) at
    ∙ get_or-table (λ j. bit p (r - (j + 1))) r (r - 1) 0 (omega arith)
    ∙ ap (bit p) last

module _ {d : List ℕ} {c : Code} (f : Described d c) where
  width : length (divisor c) ≡ c.r
  width = length-bits_of c.r c.polynomial

  some_width : 0 < length (divisor c)
  some_width = omega (arith, width, f.coded.r_least)

  odd : lowest (divisor c) ≡ 1
  odd = lowest-bit c.r c.polynomial f.coded.r_least ∙ f.polynomial_odd

  same_width : (s : ℕ) → length (bits_of c.r s) ≡ length (divisor c)
  same_width s = length-bits_of c.r s ∙ sym width

  start_kept : 0 < c.start → check_of (divisor c) (start_bits c) (replicate c.k 0) ≡ replicate c.r 0 → ⊥
  start_kept some e =
      let zeros = check_zeros (divisor c) odd c.k (start_bits c) some_width (same_width c.start) (bits_of_lem c.r c.start)
      (e ∙ ap (λ (n : ℕ). replicate n 0) (sym width)) in
      let none = bits_of-only c.r c.start 0 f.coded.start_fits (omega (arith, f.coded.start_fits))
      (zeros ∙ ap (λ (n : ℕ). replicate n 0) width ∙ sym (bits_of-zero c.r)) in
      omega arith

  -- zeros in the place of payload and check do not pass
  zeros_fail : 0 < c.start → passes (divisor c) (start_bits c) c.k (replicate (information_count c) 0) ≡ false
  zeros_fail some =
      ap₂ (λ (k : ℕ) (x : List ℕ). passes (divisor c) (start_bits c) k x) (sym (length-replicate {A = ℕ} c.k 0)) (sym (replicate-append-replicate c.k c.r 0))
      ∙ changed_check_fails (divisor c) (start_bits c) (replicate c.k 0) (replicate c.r 0) (λ e. start_kept some (sym e))

  -- with start 0 they do
  zeros-pass : c.start ≡ 0 → passes (divisor c) (start_bits c) c.k (replicate (information_count c) 0) ≡ true
  zeros-pass none =
      let check : check_of (divisor c) (start_bits c) (replicate c.k 0) ≡ replicate c.r 0 =
      ap (λ (x : List ℕ). check_of (divisor c) x (replicate c.k 0))
      (ap (bits_of c.r) none ∙ bits_of-zero c.r ∙ ap (λ (n : ℕ). replicate n 0) (sym width))
      ∙ zeros_check (divisor c) c.k some_width ∙ ap (λ (n : ℕ). replicate n 0) width in
      ap₂ (λ (k : ℕ) (x : List ℕ). passes (divisor c) (start_bits c) k x) (sym (length-replicate {A = ℕ} c.k 0))
      (sym (ap (λ (x : List ℕ). replicate c.k 0 ++ x) check ∙ replicate-append-replicate c.k c.r 0))
      ∙ check_passes (divisor c) (start_bits c) (replicate c.k 0)

  -- bits pass with at most one start
  start_of-bits : (bits : List ℕ) (s s' : ℕ) → Bits bits → s < 2 ^ c.r → s' < 2 ^ c.r
      → trial_passes (mask_of d) (starting_at s c) bits ≡ true → trial_passes (mask_of d) (starting_at s' c) bits ≡ true → s ≡ s'
  start_of-bits bits s s' b l l' e e' =
      let message = message_in (mask_of d) c bits in
      let payload = take c.k message in
      let check : (x : ℕ) → List ℕ = λ x. check_of (divisor c) (bits_of c.r x) payload in
      let same : check s ≡ check s' = sym ((same_iff (drop c.k message) (check s)).0 e) ∙ (same_iff (drop c.k message) (check s')).0 e' in
      bits_of-only c.r s s' l l'
      (check_start (divisor c) odd payload (bits_of c.r s) (bits_of c.r s') some_width (same_width s) (same_width s') (bits_of_lem c.r s) (bits_of_lem c.r s')
      (bits-take c.k message (bits-taken (mask_of d) bits (code_length c) b)) same)

-- ---- decoders

-- the message of trial 1 on silence
first-message : {d : List ℕ} {c : Code} → Described d c → message_in (mask_of d) c (first_trial (mask_of d) c (channel_values (silence c))).bits ≡ replicate (information_count c) 0
first-message {d} {c} f =
    taken-zeros (mask_of d) (first_trial (mask_of d) c (channel_values (silence c))).bits (code_length c) (first-zero (mask_of d) c)
    ∙ ap (λ (m : ℕ). replicate m 0) (ap (ones_below (mask_of d)) (sym f.coded.mask_size) ∙ f.coded.K_is)

pub trial_1_fails : Trial1Fails
trial_1_fails d c code some =
    let f : Described d c = described d c code in
    ap (passes (divisor c) (start_bits c) c.k) (first-message f) ∙ zeros_fail f some

pub trials-alike : TrialsAlike
trials-alike (single limit) restart mask c v start = refl
trials-alike (sets w limit) restart mask c v start = refl

pub one_start : OneStart
one_start d c bits s s' code b l l' e e' = start_of-bits (described d c code) bits s s' b l l' e e'

-- with start 0
pub silence-accepted : SilenceAccepted
silence-accepted p restart d c output none w =
    let mask = mask_of d in
    let v = channel_values (silence c) in
    let f : Described d c = described d c w.described in
    let message = first-message f in
    under-code p restart d (silence c) output c w.described
    ∙ fine-answer p restart mask c (silence c) output w.fine
    ∙ ap (answer_of mask c output) (run-first (trial_passes mask c) (first_trial mask c v) _ (ap (passes (divisor c) (start_bits c) c.k) message ∙ zeros-pass f none))
    ∙ ap₂ (λ (s : ℕ) (x : List ℕ). (Ok (tally 1 s), packed x)) (steps_whole c.n (mask_rule mask) v)
    (ap (take c.k) message ∙ take-replicate c.k (information_count c) 0 (omega arith))

-- whatever trial accepts silence, it is not trial 1
not_first : (p : Decoder) (restart : Restart) (d : List ℕ) (c : Code) (output : List ℕ) (trial steps : ℕ) (payload : List ℕ)
    → describe d ≡ Ok c → 0 < c.start → decoded_as p restart d (silence c) output ≡ (Ok (tally trial steps), payload) → 2 ≤ trial
not_first p restart d c output trial steps payload code some e = later trial (passed-at p restart d c (silence c) output trial steps payload code e).1
  where
    later : (trial : ℕ) {steps : ℕ} {bits : List ℕ} → PassedAt (trial_passes (mask_of d) c) (trials_of p restart (mask_of d) c (channel_values (silence c))) trial steps bits → 2 ≤ trial
    later zero x = absurd (omega (arith, x.least))
    later (suc zero) x =
        absurd (true≢false (sym x.passes ∙ ap (trial_passes (mask_of d) c) x.bits_are ∙ trial_1_fails d c code some))
    later (suc (suc trial)) x = omega arith

pub silence-later : SilenceLater
silence-later p restart d c output trial steps payload code some e = not_first p restart d c output trial steps payload code some e

-- no q, and so nothing is skipped
none-skipped : (n : ℕ) (qs : List ℕ) → length qs ≡ 0 → skipped_over n qs ≡ 0
none-skipped n [] e = refl
none-skipped n (q ∷ qs) e = absurd (omega arith)

-- with T = 1 the run makes one trial
pub silence_fails : SilenceFails
silence_fails p restart d c output code some limit own size =
    ⊎_elim
    (λ a. absurd (omega (arith, x.most, limit, not_first p restart d c output x.made (x.steps restart) a.0 code some (a.1 restart output refl))))
    (λ a.
    let one : x.made ≡ 1 = omega (arith, x.most, limit, x.each) in
    let is : List ℕ = lowest_of_each p d c (silence c) x.made in
    let nothing = none-skipped c.n (map (restart_at restart (mask_of d) (code_length c)) is) (length-map is (restart_at restart (mask_of d) (code_length c)) ∙ omega (arith, x.each, one)) in
    let pass : x.made * c.n * code_length c ≡ 1 * c.n * code_length c = ap (λ (m : ℕ). m * c.n * code_length c) one in
    let steps : x.steps restart ≡ c.n * code_length c = omega (arith, nothing, x.exceeds restart, x.full_steps, pass) in
    a.2 restart output refl ∙ ap₂ (λ (m s : ℕ). (Err (NonePassed (tally m s)), output)) one steps) x.answers
  where
    fine : judge (refusals_of p c (silence c) output) ≡ Ok tt
    fine =
        append-fine (channel_refusals c (silence c)) (own_refusals p c ++ ((differs (length output) (bytes_for c.k), OutputLength) ∷ []))
        (channel_fine c (silence c) (length-replicate {A = ℕ} (code_length c) 0) (inside (code_length c)))
        ∙ append-fine (own_refusals p c) ((differs (length output) (bytes_for c.k), OutputLength) ∷ []) own
        ∙ judge_no _ _ _ (differs_no (length output) (bytes_for c.k) size) ∙ judge-none

    x : SameRun p d c (silence c) (length output)
    x = run_of p d c (silence c) output (record { described = code; fine = fine })
