-- What trial 1 generates, by the array of its leaf values; and a limit of 1.
use mathlib.Core.Path.{◌≡◌, refl, sym, ap, ◌∙◌}
use mathlib.Core.Bool.{Bool, cond}
use mathlib.Core.Logic.{inl}
use mathlib.Core.List.Memᴰ
use mathlib.Core.List.{List, [], map}
use Prim.Native.Nat.{ℕ, ◌-◌, ◌*◌}
use native.Mathlib.Omega.{arith}
use borrow.Author.Tests.{lt-ltb}
use lib.IntN.{ℤ, nat_abs}
use lib.ListN.{length}
use Rattle.arrays.specs.Claims.{longest}
use Rattle.arrays.proofs.Sizes.{fits}
use Rattle.code.specs.declared.Code.{Code}
use Rattle.code.specs.Code.{code_length}
use Rattle.channel.specs.Channel.{channel_values}
use Rattle.flip_trial.specs.Trial.{first_trial, trial_passes}
use Rattle.flip_trial.specs.Clauses.{FirstLeaves}
use Rattle.flip_run.specs.Trials.{failed}
use Rattle.flip_run.proofs.LoopInvariant.{run_none}
use Rattle.flip_run.proofs.LoopStep.{values-inside}
use Rattle.decoder.specs.declared.Search.{Search}
use Rattle.decoder.specs.Candidate.{Candidate, extensions, insert_each}
use Rattle.decoder.specs.Tried.{tried}
use Rattle.decoder.specs.Clauses.{generated_by, tried_by}
use Rattle.sets_tried.proofs.Members.{generated_flips}
use Rattle.sets_tried.proofs.Same.{same-extensions}
use Rattle.sets_queue.specs.Clauses.{set_key, WalkPre, none_untried, with_keys}
use Rattle.sets_queue.proofs.Keys.{keys_insert_each}
use Rattle.sets_run.specs.Clauses.{SetsPre, first_untried}
use Rattle.sets_run.proofs.Leaves.{leaf_first, first_small}
use Rattle.sets_run.proofs.Searching.{run_of, good_digits}

-- no later trial is allowed
pub none_allowed : (s : Search) (mask : List ℕ) (c : Code) (v : List ℤ) (start : ℕ) → s.limit ≡ 1 → run_of s mask c v 1 start (tried_by s mask c v) ≡ failed 1 start
unfolding tried
none_allowed s mask c v start e =
    let z : s.limit - 1 ≡ 0 = omega arith in
    ap (λ (m : ℕ). run_of s mask c v 1 start (tried (generated_by s mask c v) m (insert_each m (generated_by s mask c v []) []))) z ∙ run_none (trial_passes mask c) 1 start

module _ {s : Search} {mask : List ℕ} {c : Code} {channel : List ℕ} {values : List ℤ} (on : SetsPre s mask c channel) (kept : FirstLeaves longest mask c channel values) where
  abbrev v : List ℤ
  v = channel_values channel

  pub walk_first : WalkPre mask values
  walk_first = record {
    there = omega (arith, on.frame.coded.mask_size, fits on.frame.coded.n_most, kept.whole);
    fits = omega (arith, on.frame.coded.mask_size, fits on.frame.coded.n_most);
    small = record { at = λ j l. first_small kept j (omega (arith, on.frame.coded.mask_size)) on.frame.coded (values-inside channel on.frame.in_range) };
  }

  first-generated : extensions mask values [] (8 * length mask) ≡ generated_by s mask c v []
  first-generated =
      ap (extensions mask values []) on.frame.coded.mask_size
      ∙ same-extensions mask (code_length c) values (first_trial mask c v).leaves (λ j m e. ap nat_abs (leaf_first kept j m)) [] (inl refl) (code_length c) (omega arith)
      ∙ sym (ap (λ (t : Bool). cond t (extensions mask (first_trial mask c v).leaves [] (code_length c)) []) (lt-ltb 0 s.w on.flips_least))

  pub first_sets : with_keys (map set_key (extensions mask values [] (8 * length mask))) (none_untried (s.limit - 1)) ≡ first_untried s mask c channel
  first_sets =
      ap (λ (new : List Candidate). with_keys (map set_key new) (none_untried (s.limit - 1))) first-generated
      ∙ ap (λ (ks : List ℕ). record { keys = ks; room = s.limit - 1 })
      (sym (keys_insert_each (s.limit - 1) (generated_by s mask c v []) []
      (λ x q. good_digits on.frame.coded on.flips_most (generated_flips s mask c v [] (inl refl) q)) (λ x q. absurd (Memᴰ.not-nil q))))
