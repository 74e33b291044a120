-- Each part of an answer fits its place in the number.
use mathlib.Core.Path.{◌≡◌, refl}
use mathlib.Core.Bool.{Bool, true, false, cond}
use mathlib.Core.List.{List}
use Prim.Native.Nat.{ℕ, ◌^◌, ◌≤◌, ◌<◌}
use native.Mathlib.Nat.{le_of_eq}
use native.Mathlib.Omega.{arith}
use borrow.Author.Rules.{rules}
use borrow.Author.Tests.{ltb-true, ltb-false}
use lib.Dec.{ltb, eqb}
use lib.ListN.{length}
use Rattle.refusal.specs.declared.Refusal.{Refusal}
use Rattle.refusal.specs.Judge.{differs, judge, refused_or}
use Rattle.refusal.proofs.Judge.{Judged, judged_reached}
use Rattle.refusal.proofs.Tests.{differs-past}
use Rattle.arrays.specs.Sizes.{largest_n}
use Rattle.arrays.proofs.Sizes.{fits, steps_fit}
use Rattle.code.specs.declared.Code.{Code}
use Rattle.code.specs.Code.{code_length}
use Rattle.code.specs.Description.{mask_of, code_of, describe_up_to, describe, on_description}
use Rattle.code.specs.Clauses.{description_refusals, Description}
use Rattle.code.proofs.Facts.{described}
use Rattle.values.specs.Values.{mask_rule}
use Rattle.channel.specs.Channel.{channel_values, first_outside}
use Rattle.encoder.specs.Encode.{encoding_refusals, encoded_by, encoded}
use Rattle.pass_tree.proofs.StepsMost.{steps_most}
use Rattle.pass_resume.specs.Resume.{first_bad, resuming_refusals, resumed_by, resumed}
use Rattle.flip_trial.specs.declared.Restart.{Restart}
use Rattle.flip_trial.specs.declared.Restart.TheVariants.{AfterFlip}
use Rattle.flip_trial.specs.Trial.{trial_passes}
use Rattle.flip_run.specs.Trials.{Verdict, passed, failed, run, answer_of}
use Rattle.decoder.specs.Decoder.{Decoder, single, sets, refusals_of, trials_of, decoded_under, decoded_as}
use Rattle.decoder_demands.proofs.StepBounds.{Bounded, bounded}
use Rattle.hearing.specs.Hearing.{fresh, combined, added_to, add_refusals, is_hearing}
use Rattle.hearing.proofs.Adding.{count_most, not_full}
use Rattle.hearing_state.specs.State.{State, state_of, no_state, description_of, is_state, code_of_state, refused_in, with_hearing, opened, decoded_held_with}
use Rattle.hearing_state.proofs.States.{code_by, code-most, is_hearing_lem}
use Rattle.hearing_buffer.specs.Lent.{hearing_size, state_in, answer_in, opened_in, added_in, cleared_in}
use Rattle.hearing_preview.specs.Preview.{then_restarted_in, previewed_in}
use Rattle.polar_number.specs.Number.{Parts, parts, refusal_parts, encoded_parts, resumed_parts, decoded_parts, kept_parts}
use Rattle.polar_number.specs.Clauses.{Fitting}
use Rattle.refusal.specs.declared.Refusal.TheVariants.{ChannelValue, NotAState, PrefixBit}
use Rattle.std.specs.Prelude.{Err, Ok}
use Rattle.refusal.specs.Clauses.{Judgement}
use Rattle.flip_run.specs.Clauses.{Decoded}
use Rattle.hearing_buffer.specs.Clauses.{Kept}

-- an answer beside the output's bytes
abbrev pub Fits : {A : Type 0} → (A → Parts) → A × List ℕ → Type 0
Fits parts_of answer = Fitting (parts_of answer.0)

fitting : {refusal value steps : ℕ} → refusal < 2 ^ 8 → value < 2 ^ 24 → steps < 2 ^ 32 → Fitting (parts refusal value steps)
fitting r v s = record { refusal_fits = r; value_fits = v; steps_fits = s }

-- ---- the refusals of a list of tests

abbrev RefusalFits : Refusal → Type 0
RefusalFits x = Fitting (refusal_parts x)

-- one that names no index
alone : {i : ℕ} → i < 2 ^ 8 → Fitting (parts i 0 0)
alone l = fitting l (omega arith) (omega arith)

-- an index below a length that is at most N
module _ (c : Code) (n_most : c.n ≤ largest_n) where
  at : {i index size : ℕ} → i < 2 ^ 8 → size ≤ code_length c → ltb index size ≡ true → Fitting (parts i index 0)
  at {i} {index} {size} l m t = fitting l (omega (arith, ltb-true index size t, fits n_most)) (omega arith)

  -- refusal 13, after 12
  outside-fits : (channel : List ℕ) → differs (length channel) (code_length c) ≡ false → ltb (first_outside channel) (length channel) ≡ true → RefusalFits (ChannelValue (first_outside channel))
  outside-fits channel t12 = at (omega arith) (le_of_eq (differs-past (length channel) (code_length c) t12))

  -- refusal 18, after 17
  bad_fits : (mask prefix : List ℕ) → ltb (code_length c) (length prefix) ≡ false → ltb (first_bad mask prefix) (length prefix) ≡ true → RefusalFits (PrefixBit (first_bad mask prefix))
  bad_fits mask prefix t17 = at (omega arith) (ltb-false (code_length c) (length prefix) t17)

-- ---- a call: its description, then its tests

abbrev DescriptionFits : Description → Type 0
DescriptionFits (Ok c) = Unit
DescriptionFits (Err x) = RefusalFits x

description-fits : (d : List ℕ) → DescriptionFits (describe d)
unfolding describe_up_to refused_or
description-fits d = go (judge (description_refusals d)) (judged_reached RefusalFits (description_refusals d) (search (rules, alone)))
  where
    go : (j : Judgement) → Judged RefusalFits j → DescriptionFits (refused_or j Err (Ok (code_of d)))
    go (Ok tt) f = tt
    go (Err x) f = f

-- what holds of its refusals, which fit, and of its answer, holds of what it gives
module _ {X : Type 0} (Holds : X → Type 0) (refuse : Refusal → X) (carry : (x : Refusal) → RefusalFits x → Holds (refuse x)) where
  on-judged : (j : Judgement) → Judged RefusalFits j → {answer : X} → Holds answer → Holds (refused_or j refuse answer)
  unfolding refused_or
  on-judged (Ok tt) f a = a
  on-judged (Err x) f a = carry x f

  on-code : (a : Description) → DescriptionFits a → {answer : Code → X} → ((c : Code) → a ≡ Ok c → Holds (answer c)) → Holds (on_description a refuse answer)
  on-code (Ok c) f h = h c refl
  on-code (Err x) f h = carry x f

  on_call : (d : List ℕ) (tests : Code → List (Bool × Refusal)) {answer : Code → X}
      → ((c : Code) → describe d ≡ Ok c → Judged RefusalFits (judge (tests c)) × Holds (answer c))
      → Holds (on_description (describe d) refuse (λ c. refused_or (judge (tests c)) refuse (answer c)))
  on_call d tests h = on-code (describe d) (description-fits d) (λ c e. on-judged (judge (tests c)) (h c e).0 (h c e).1)

-- ---- the exports

pub encoded-fits : (d payload output : List ℕ) → Fits encoded_parts (encoded d payload output)
unfolding encoded encoded_by
encoded-fits d payload output =
    on_call (Fits encoded_parts) _ (λ x f. f) d (λ c. encoding_refusals c payload output)
    (λ c e. (judged_reached RefusalFits (encoding_refusals c payload output) (search (rules, alone)), alone (omega arith)))

pub resumed-fits : (d channel prefix output : List ℕ) → Fits resumed_parts (resumed d channel prefix output)
unfolding resumed resumed_by
resumed-fits d channel prefix output =
    let mask : List ℕ = mask_of d in
    on_call (Fits resumed_parts) _ (λ x f. f) d (λ c. resuming_refusals mask c channel prefix output)
    (λ c e.
    let l = (described d c e).coded.n_most in (
      judged_reached RefusalFits (resuming_refusals mask c channel prefix output) (search (rules, alone, outside-fits c l channel, bad_fits c l mask prefix) depth 9),
      fitting (omega arith) (omega arith) (omega (arith, steps_fit l (steps_most c.n prefix (mask_rule mask) (channel_values channel)))),
    ))

-- what a run of trials answers, within its bounds
abbrev BoundedFits : Decoded × List ℕ → Type 0
BoundedFits a = Bounded a → Fits decoded_parts a

ran_fits : (mask : List ℕ) (c : Code) (output : List ℕ) (v : Verdict) → BoundedFits (answer_of mask c output v)
ran_fits mask c output (passed trial steps bits) b = fitting (omega arith) (omega (arith, b.0)) (omega (arith, b.1))
ran_fits mask c output (failed made steps) b = fitting (omega arith) (omega (arith, b.0)) (omega (arith, b.1))

-- the refusals of a decoder
refusals_fit : (p : Decoder) (c : Code) → c.n ≤ largest_n → (channel output : List ℕ) → Judged RefusalFits (judge (refusals_of p c channel output))
refusals_fit (single limit) c l channel output = judged_reached RefusalFits (refusals_of (single limit) c channel output) (search (rules, alone, outside-fits c l channel))
refusals_fit (sets w limit) c l channel output = judged_reached RefusalFits (refusals_of (sets w limit) c channel output) (search (rules, alone, outside-fits c l channel) depth 9)

pub decoded_fits : (p : Decoder) (restart : Restart) (d channel output : List ℕ) → Fits decoded_parts (decoded_as p restart d channel output)
unfolding decoded_as decoded_under
decoded_fits p restart d channel output =
    on_call BoundedFits _ (λ x f b. f) d (λ c. refusals_of p c channel output)
    (λ c e. (
      refusals_fit p c (described d c e).coded.n_most channel output,
      ran_fits (mask_of d) c output (run (trial_passes (mask_of d) c) 0 0 (trials_of p restart (mask_of d) c (channel_values channel))),
    ))
    (bounded p restart d channel output)

-- ---- the exports on a state

state_fits : (s : State) → DescriptionFits (code_of_state s)
state_fits s = by (describe (description_of s))
  where
    at : (t : Bool) (c : Code) → DescriptionFits (cond t (Ok c) (Err NotAState))
    at true c = tt
    at false c = alone (omega arith)

    by : (a : Description) → DescriptionFits (code_by s a)
    by (Ok c) = at (is_state c s) c
    by (Err x) = alone (omega arith)

-- what is kept of an answer, its count within 255
abbrev KeptFits : List ℕ → Judgement × State → Type 0
KeptFits b a = Fits kept_parts (answer_in a b)

kept_refused : (b : List ℕ) (s : State) (x : Refusal) → RefusalFits x → KeptFits b (refused_in s x)
unfolding refused_or
kept_refused b s x f = f

kept_fine : (b : List ℕ) (s : State) → s.hearing.count ≤ 255 → KeptFits b (Ok tt, s)
unfolding refused_or
kept_fine b s l = fitting (omega arith) (omega arith) (omega arith)

pub opened-fits : (d b : List ℕ) → Fits kept_parts (opened_in d b)
opened-fits d b = at (eqb (length b) hearing_size)
  where
    at : (t : Bool) → Fits kept_parts (cond t (answer_in (opened d) b) (Err NotAState, b))
    at true = on-code (KeptFits b) (refused_in no_state) (kept_refused b no_state) (describe d) (description-fits d) (λ c e. kept_fine b (state_of d fresh) (omega arith))
    at false = alone (omega arith)

module _ (b channel : List ℕ) where
  abbrev s : State
  s = state_in b

  added-under : (c : Code) → is_hearing c s.hearing ≡ true → (j : Judgement) → judge (add_refusals c s.hearing.count channel) ≡ j → Judged RefusalFits j
      → KeptFits b (refused_or j (refused_in s) (Ok tt, with_hearing s (added_to c s.hearing channel)))
  unfolding refused_or
  added-under c is (Ok tt) e f =
      kept_fine b (with_hearing s (added_to c s.hearing channel)) (omega (arith, not_full c s.hearing.count channel e (count_most c s.hearing is)))
  added-under c is (Err x) e f = kept_refused b s x f

  pub added-fits : Fits kept_parts (added_in b channel)
  added-fits =
      on-code (KeptFits b) (refused_in s) (kept_refused b s) (code_of_state s) (state_fits s)
      (λ c e.
      let tests = add_refusals c s.hearing.count channel in
      added-under c (is_hearing_lem s c e) (judge tests) refl (judged_reached RefusalFits tests (search (rules, alone, outside-fits c (code-most s c e) channel))))

pub cleared-fits : (b : List ℕ) → Fits kept_parts (cleared_in b)
cleared-fits b =
    let s = state_in b in
    on-code (KeptFits b) (refused_in s) (kept_refused b s) (code_of_state s) (state_fits s) (λ c e. kept_fine b (with_hearing s fresh) (omega arith))

pub held_fits : (restart : Restart) (s : State) (limit : ℕ) (output : List ℕ) → Fits decoded_parts (decoded_held_with restart s limit output)
held_fits restart s limit output =
    on-code (Fits decoded_parts) _ (λ x f. f) (code_of_state s) (state_fits s)
    (λ c e. decoded_fits (single limit) restart (description_of s) (combined c s.hearing) output)

-- a preview: the refusal of the add, or the answer of decoding
previewed-by : (a : Kept × List ℕ) (limit : ℕ) (output : List ℕ) → Fits kept_parts a → Fits decoded_parts (then_restarted_in a limit output)
previewed-by (Ok count, copy) limit output f = held_fits AfterFlip (state_in copy) limit output
previewed-by (Err x, copy) limit output f = f

pub previewed-fits : (b channel : List ℕ) (limit : ℕ) (output : List ℕ) → Fits decoded_parts (previewed_in b channel limit output)
previewed-fits b channel limit output = previewed-by (added_in b channel) limit output (added-fits b channel)
