-- `flip_run::begin` meets its contract: trial 1 passes, or it fails and a run goes on.
use mathlib.Core.Path.{◌≡◌, refl, sym, ap, ◌∙◌, subst}
use mathlib.Core.Bool.{Bool}
use mathlib.Core.List.{List}
use Prim.Native.Nat.{ℕ, ◌+◌}
use native.Mathlib.Nat.{zero-add}
use native.Mathlib.Omega.{arith}
use borrow.Author.Rules.{rules}
use lib.IntN.{ℤ}
use lib.ListN.{length}
use Rattle.arrays.specs.Claims.{longest}
use Rattle.arrays.proofs.Sizes.{fits}
use Rattle.bits.proofs.Lists.{bits-nil}
use Rattle.channel.specs.Channel.{channel_values}
use Rattle.pass_tree.specs.declared.Work.{Work}
use Rattle.pass_tree.specs.Node.{Out}
use Rattle.flip_trial.specs.Trial.{first_trial, trial_passes}
use Rattle.flip_trial.proofs.Bounds.{first_bits, first_steps}
use Rattle.flip_run.specs.Trials.{Verdict, passed, run, tally}
use Rattle.flip_run.specs.Clauses.{Ran}
use Rattle.flip_run.proofs.LoopInvariant.{run-passes, run_fails}
use Rattle.flip_run.proofs.LoopStep.{values-inside, arrays_again, ran_passed}
use Rattle.flip_run.proofs.begin.Statement.{statement}
use Rattle.flip_run.proofs.begin.Tie as tie
use Rattle.std.specs.Prelude.{Ok}

first-trial-requires : tie.Need-first_trial-done-requires
first-trial-requires c κs =
    let s = c.before.before.before.before.before.before.before in
    let on = s.requires.0 in (
      record {
        n_least = omega (arith, on.coded.n_least);
        n_most = on.coded.n_most;
        q_most = omega arith;
        long = on.channel_size;
        small = values-inside s.args.channel.now on.in_range;
        bits = bits-nil;
        whole = s.requires.2;
      },
      on.coded.mask_size,
      s.requires.1,
    )

-- trial 1
module _ (c : tie.After-first_trial-done) where
  abbrev s : tie.Start
  s = c.before.before.before.before.before.before.before.before

  abbrev mask : List ℕ
  mask = s.args.mask.now

  abbrev v : List ℤ
  v = channel_values s.args.channel.now

  abbrev o : Out
  o = first_trial mask s.args.code v

  abbrev ok : List ℕ → Bool
  ok = trial_passes mask s.args.code

  -- the steps, counted from none
  counted : c.first_trial-done.result.steps ≡ 0 + o.work.steps
  counted = ap (λ (w : Work). w.steps) c.first_trial-done.ensures.work ∙ sym (zero-add o.work.steps)

trial-passes-requires : tie.Need-trial_passes-requires
trial-passes-requires c κs =
    let f = c.before in
    let coded = (s f).requires.0.coded in
    let w = f.first_trial-done.ensures.whole in
    (coded, omega (arith, w.bits, fits coded.n_most), omega (arith, w.sums, fits coded.n_most))

-- its check
module _ (c : tie.After-trial_passes) where
  abbrev f : tie.After-first_trial-done
  f = c.before.before

  ok-is : c.trial_passes.result ≡ ok f (o f).bits
  ok-is = c.trial_passes.ensures.0 ∙ ap (ok f) f.first_trial-done.ensures.bits.bits

  -- the message stands in the place of the sums
  same-room : length c.trial_passes.new.message ≡ longest
  same-room = c.trial_passes.auto.message ∙ f.first_trial-done.ensures.whole.sums

-- the check is named in no place here: whether it passed is found among the facts
pub begin_spec : {M : Type 1} → statement M
begin_spec =
    tie.close
    (tie.spec
    first-trial-requires
    trial-passes-requires
    (λ c later. (
      subst (λ (w : Verdict). Ran c.args.mask.now c.args.code w (Ok (tally 1 c.first_trial-done.result.steps)) c.trial_passes.new.message)
          (ap (λ (steps : ℕ). passed 1 steps (o (f c.before)).bits) (counted (f c.before))
          ∙ sym (run-passes (ok (f c.before)) 0 0 (o (f c.before)) later (sym (ok-is c.before) ∙ (search rules))))
          (ran_passed c.requires.0.coded _ _ c.first_trial-done.ensures.bits.bits c.trial_passes.ensures.1 (first_bits c.args.mask.now c.args.code (v (f c.before)))),
      same-room c.before,
    ))
    (λ c. (
      refl,
      record {
        later = record {
          start_most = omega (arith, counted (f c.before), first_steps c.args.mask.now c.args.code (v (f c.before)));
          first_bits = c.first_trial-done.ensures.bits;
          plain = c.first_trial-done.ensures.plain;
          goes_on = λ later.
              run_fails (ok (f c.before)) 0 0 (o (f c.before)) later (sym (ok-is c.before) ∙ (search rules))
              ∙ ap (λ (steps : ℕ). run (ok (f c.before)) 1 steps later) (sym (counted (f c.before)));
        };
        leaves = c.first_trial-done.ensures.leaves;
        whole = arrays_again c.first_trial-done.ensures.whole (same-room c.before);
      },
    )))
