use Rattle.std.proofs.Common.{◌≡◌, ℕ, ◌+◌, ◌*◌, ◌≤◌, List, ◌∷◌, map, length, get_or, ℤ, arith, refl, sym, ap, ◌∙◌, subst, Ok, Err}
use Rattle.arrays.specs.Claims.{most_steps, longest}
use Rattle.arrays.proofs.Sizes.{fits, steps_fit}
use Rattle.code.specs.declared.Code.{Code}
use Rattle.code.specs.Code.{code_length}
use Rattle.channel.specs.Channel.{channel_values}
use Rattle.pass_tree.specs.declared.Work.{Work}
use Rattle.pass_tree.specs.Node.{Out}
use Rattle.pass_ends.specs.Clauses.{Arrays}
use Rattle.flip_trial.specs.Trial.{restart_at, later_trial, trial_passes}
use Rattle.flip_trial.specs.Flips.{Flips}
use Rattle.flip_trial.specs.Clauses.{TrialPost, trial_by}
use Rattle.flip_trial.proofs.Bounds.{later-bits, later_steps}
use Rattle.flip_trial.proofs.Passes.{q_is, later_pre, later_made, plain_after}
use Rattle.flip_run.specs.Trials.{Verdict, tally}
use Rattle.flip_run.specs.Clauses.{Ran}
use Rattle.flip_run.proofs.LoopStep.{trial_on, ran_passed}
use Rattle.decoder.specs.Candidate.{Candidate}
use Rattle.decoder.proofs.Limit.{limit_fits}
use Rattle.sets_queue.specs.Clauses.{Untried, with_keys, set_key, indices_of}
use Rattle.sets_run.specs.Clauses.{resumed_at}
use Rattle.sets_run.proofs.Searching.{Searching, search_starts, search_ends, search_next, next_some, next_indices, next_flips, search_passes, search_goes_on}
use Rattle.sets_run.proofs.Held.{leaves_pre, generated-is}
use Rattle.sets_run.proofs.set_trials.Goals as goal
use Rattle.sets_run.proofs.set_trials.Goals.{In-Some}

-- a turn of the loop
module _ (c : In-Some) where
  abbrev mask : List ℕ
  mask = c.args.mask.now

  abbrev code : Code
  code = c.args.code

  abbrev v : List ℤ
  v = channel_values c.args.channel.now

  abbrev later : List ℕ → Out
  later is = later_trial c.args.search.restart mask code v is

  abbrev after : Untried
  after = c.pop_first.new.self

  abbrev Going : ℕ → ℕ → Untried → List Candidate → Type 0
  Going = Searching c.args.search mask code v c.args.start

  coded-size : 8 * length mask ≡ code_length code
  coded-size = c.requires.0.frame.coded.mask_size

  size_fits : code_length code ≤ longest
  size_fits = fits c.requires.0.frame.coded.n_most

  -- the set of the least key, and the others
  next : (x : Candidate) × (xs : List Candidate) × Going c.loop-key.trials c.loop-key.steps c.loop-key.queue (x ∷ xs) × (c.in-Some.key ≡ set_key x) × (after.keys ≡ map set_key xs)
  next = search_next c.loop-key.invariant.0.1 c.in-Some.ensures.0

  -- its indices
  module _ {is : List ℕ} (indices : is ≡ indices_of c.in-Some.key) where
    set_is : is ≡ next.0.flips
    set_is = indices ∙ next_indices c.requires.0 next.2 next.3

    flips : Flips mask (code_length code) is
    flips = (next_flips c.requires.0 next.2 set_is).flips

    -- its trial
    module _ {q : ℕ} (resumed : q ≡ restart_at c.args.search.restart mask (8 * length mask) (get_or is 0 0)) {a : Arrays} {done : Work}
        (post : TrialPost longest code q (trial_by q c.args.first.now c.loop-key.rules code v is) a done) where
      abbrev at : ℕ
      at = resumed_at c.args.search mask code is

      made-is : TrialPost longest code at (later is) a done
      made-is = later_made c.loop-key.invariant.1 c.requires.1.first_bits flips c.args.search.restart coded-size resumed post

      took : done.steps ≡ (later is).work.steps
      took = ap (λ (w : Work). w.steps) made-is.work

      few : done.steps ≤ most_steps
      few = steps_fit c.requires.0.frame.coded.n_most (omega (arith, took, later_steps mask code v is at))

      resumes-at : q ≡ at
      resumes-at = q_is c.loop-key.invariant.1 c.requires.1.first_bits flips c.args.search.restart coded-size resumed

pub loop-key-init : goal.loop-key-init
loop-key-init c =
    let p = c.requires in (
      (_, search_starts c.args.channel.now (steps_fit p.0.frame.coded.n_most p.1.start_most) p.0.limit_least p.3),
      p.1.plain,
      record { work = p.4.work; bits = refl; sums = p.4.sums; leaves = p.4.leaves },
    )

pub returns : goal.returns
returns c =
    let x = c.args in
    let inv = c.loop-key.invariant in (
      subst (λ (w : Verdict). Ran x.mask.now x.code w (Err (tally c.loop-key.trials c.loop-key.steps)) c.loop-key.sums)
          (sym (c.requires.1.goes_on _ ∙ search_ends inv.0.1 c.in_default.ensures.0)) refl,
      inv.2.sums,
    )

pub indices_of-set-requires : goal.indices_of-set-requires
indices_of-set-requires c =
    let n = next ((goal.at.indices_of-set-requires c).In-Some) in
    next_some c.requires.0 n.2 n.3

pub restart_index-q-requires : goal.restart_index-q-requires
restart_index-q-requires c =
    let t = (goal.at.restart_index-q-requires c).In-Some in
    let f = flips t (c.as_slice-flips.ensures ∙ c.indices_of-set.ensures) in
    (omega (arith, coded-size t, size_fits t), omega (arith, coded-size t, f.below 0 f.some))

pub later_trial-done-requires : goal.later_trial-done-requires
later_trial-done-requires c =
    let t = (goal.at.later_trial-done-requires c).In-Some in
    let inv = c.loop-key.invariant in (
      trial_on c.requires.0.frame inv.1.whole inv.2,
      later_pre inv.1 c.requires.1.first_bits (flips t (c.as_slice-flips.ensures ∙ c.indices_of-set.ensures)) c.args.search.restart (coded-size t) c.restart_index-q.ensures,
    )

pub overflow_add-steps : goal.overflow_add-steps
overflow_add-steps c =
    let t = (goal.at.overflow_add-steps c).In-Some in
    let n = next t in
    let on = c.requires.0 in
    omega (arith, few t (c.as_slice-flips.ensures ∙ c.indices_of-set.ensures) c.restart_index-q.ensures c.later_trial-done.ensures.0, n.2.few, n.2.limit, c.in-Some.ensures.1, on.limit_most, limit_fits c.args.search.w c.args.code (omega (arith, on.frame.coded.K_most, size_fits t)))

pub trial_passes-requires : goal.trial_passes-requires
trial_passes-requires c =
    let t = (goal.at.trial_passes-requires c).In-Some in
    let w = (made-is t (c.as_slice-flips.ensures ∙ c.indices_of-set.ensures) c.restart_index-q.ensures c.later_trial-done.ensures.0).whole in
    (c.requires.0.frame.coded, omega (arith, w.bits, size_fits t), omega (arith, w.sums, size_fits t))

pub returns-then-trial_passes : goal.returns-then-trial_passes
returns-then-trial_passes c =
    let t = (goal.at.returns-then-trial_passes c).In-Some in
    let indices = c.as_slice-flips.ensures ∙ c.indices_of-set.ensures in
    let resumed = c.restart_index-q.ensures in
    let post = c.later_trial-done.ensures.0 in
    let m = made-is t indices resumed post in
    let ok = c.trial_passes.ensures.0 ∙ ap (trial_passes (mask t) (code t)) m.bits in (
      subst (λ (w : Verdict). Ran (mask t) (code t) w (Ok (tally (c.loop-key.trials + 1) (c.loop-key.steps + c.later_trial-done.result.steps))) c.trial_passes.new.message)
          (sym (c.requires.1.goes_on _ ∙ search_passes c.requires.0 (next t).2 (set_is t indices) (after t) c.in-Some.ensures.1 (took t indices resumed post) (sym ok ∙ c.if-trial_passes.true)))
          (ran_passed c.requires.0.frame.coded _ _ m.bits c.trial_passes.ensures.1 (later-bits (mask t) (code t) (v t) c.as_slice-flips.result.now _)),
      c.trial_passes.auto.message ∙ m.whole.sums,
    )

pub generate-requires : goal.generate-requires
generate-requires c =
    let t = (goal.at.generate-requires c).In-Some in
    let indices = c.as_slice-flips.ensures ∙ c.indices_of-set.ensures in
    let resumed = c.restart_index-q.ensures in
    let post = c.later_trial-done.ensures.0 in
    let f = flips t indices in (
      omega (arith, coded-size t, size_fits t),
      subst (λ (n : ℕ). Flips (mask t) n c.as_slice-flips.result.now) (sym (coded-size t)) f,
      leaves_pre c.requires.0 f c.requires.2 (made-is t indices resumed post) (coded-size t) (resumes-at t indices resumed post),
    )

pub loop-key-preserved : goal.loop-key-preserved
loop-key-preserved c =
    let t = (goal.at.loop-key-preserved c).In-Some in
    let indices = c.as_slice-flips.ensures ∙ c.indices_of-set.ensures in
    let resumed = c.restart_index-q.ensures in
    let post = c.later_trial-done.ensures.0 in
    let f = flips t indices in
    let m = made-is t indices resumed post in
    let n = next t in
    let ok = c.trial_passes.ensures.0 ∙ ap (trial_passes (mask t) (code t)) m.bits in
    let new = generated-is c.requires.0 f c.requires.2 m (coded-size t) (resumes-at t indices resumed post) in (
      (
        _,
        search_goes_on c.requires.0 n.2 (set_is t indices) (after t) c.in-Some.ensures.1 (took t indices resumed post) (sym ok ∙ c.if-trial_passes.false) (few t indices resumed post) n.4
            (c.generate.ensures ∙ ap (λ (xs : List Candidate). with_keys (map set_key xs) (after t)) new),
      ),
      plain_after c.loop-key.invariant.1 c.requires.1.first_bits f c.args.search.restart (coded-size t) resumed c.later_trial-done.ensures.1 (size_fits t),
      record { work = m.whole.work; bits = m.whole.bits; sums = c.trial_passes.auto.message ∙ m.whole.sums; leaves = c.generate.auto.leaves ∙ m.whole.leaves },
    )
