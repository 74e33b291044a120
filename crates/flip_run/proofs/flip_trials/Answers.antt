use Rattle.std.proofs.Common.{◌≡◌, ℕ, ◌+◌, ◌-◌, ◌*◌, ◌%◌, ◌<◌, ◌≤◌, Bool, true, false, List, [], ◌∷◌, length, take, get_or, ℤ, nat_abs, to_z, w32, arith, refl, sym, ap, ◌∙◌, subst, Ok, Err}
use Rattle.laws.proofs.Signed.{back, back_is}
use Rattle.arrays.specs.Claims.{most_trials, most_steps, longest}
use Rattle.arrays.proofs.Sizes.{fits, steps_fit}
use Rattle.code.specs.declared.Code.{Code}
use Rattle.code.specs.Code.{code_length}
use Rattle.channel.specs.Channel.{channel_values}
use Rattle.pass_tree.specs.declared.Work.{Work}
use Rattle.pass_tree.specs.Node.{Out}
use Rattle.pass_ends.specs.Clauses.{Arrays}
use Rattle.flip_order.specs.Clauses.{least_above}
use Rattle.flip_order.proofs.Keys.{keys_made, LastKey, last_none, next_place, next_positive, next_index}
use Rattle.flip_trial.specs.Trial.{first_trial, later_trial, restart_at, trial_passes}
use Rattle.flip_trial.specs.Flips.{Flips}
use Rattle.flip_trial.specs.Clauses.{TrialPost, trial_by}
use Rattle.flip_trial.proofs.Bounds.{later-bits, later_steps}
use Rattle.flip_trial.proofs.Passes.{later_pre, later_made, plain_after}
use Rattle.flip_run.specs.declared.Terms.{Terms}
use Rattle.flip_run.specs.Trials.{Verdict, passed, run, flip_order, tally}
use Rattle.flip_run.specs.Clauses.{FramePre, LimitPre, LaterTrialsPre, FirstKeys, Ran, verdict_by}
use Rattle.flip_run.proofs.FlipOrder.{order_flips}
use Rattle.flip_run.proofs.LoopInvariant.{LoopInvariant, left, loop_starts, loop_ends, loop_passes, loop_goes_on}
use Rattle.flip_run.proofs.LoopStep.{trial_on, arrays_again, order_long, keys_pre, ran_passed}
use Rattle.flip_run.proofs.flip_trials.Goals as goal
use Rattle.flip_run.proofs.flip_trials.Goals.{After-next_key-key}

-- as many trials as the limit allows have failed
ended : (terms : Terms) {mask : List ℕ} {code : Code} {channel first rules : List ℕ} {start made steps : ℕ} (message : List ℕ) → FramePre mask code channel → LimitPre terms.limit code → LaterTrialsPre longest mask code channel start first rules
    → LoopInvariant (trial_passes mask code) (λ i. later_trial terms.restart mask code (channel_values channel) (i ∷ [])) (flip_order mask code (channel_values channel)) terms.limit start made steps
    → terms.limit ≤ made → Ran mask code (verdict_by terms mask code channel) (Err (tally terms.limit steps)) message
ended terms {mask} {code} {made = made} {steps} message on limits later g most =
    let all : terms.limit ≡ made = omega (arith, g.most) in
    subst (λ (w : Verdict). Ran mask code w (Err (tally terms.limit steps)) message) (sym (later.goes_on _ ∙ loop_ends g (order_long on limits.most) most))
    (ap (λ (n : ℕ). Err (tally n steps)) all)

-- a turn of the loop
module _ (c : After-next_key-key) where
  abbrev mask : List ℕ
  mask = c.args.mask.now

  abbrev code : Code
  code = c.args.code

  abbrev v : List ℤ
  v = channel_values c.args.channel.now

  abbrev order : List ℕ
  order = flip_order mask code v

  abbrev later : ℕ → Out
  later i = later_trial c.args.terms.restart mask code v (i ∷ [])

  abbrev made : ℕ
  made = c.loop-trial.trial - 1

  abbrev Going : ℕ → ℕ → Type 0
  Going = LoopInvariant (trial_passes mask code) later order c.args.terms.limit c.args.start

  abbrev going : Going made c.loop-trial.steps
  going = c.loop-trial.invariant.0

  last : LastKey (first_trial mask code v).leaves order (made - 1) (to_z w32 c.loop-trial.key-bits)
  last = c.loop-trial.invariant.1

  size_fits : code_length code ≤ longest
  size_fits = fits c.requires.0.coded.n_most

  this : made + 1 ≡ c.loop-trial.trial
  this = omega (arith, c.loop-trial.auto.trial)

  more : made < c.args.terms.limit
  more = omega (arith, this, c.loop-trial-test.true)

  made_most : made < most_trials
  made_most = omega (arith, more, c.requires.1.most, c.requires.0.coded.K_most, size_fits)

  long : c.args.terms.limit - 1 ≤ length order
  long = order_long c.requires.0 c.requires.1.most

  here : made - 1 < length order
  here = omega (arith, long, going.least, more)

  -- the keys are those of trial 1's leaf values
  keyed : FirstKeys mask code c.args.channel.now c.make_keys.new.values
  keyed =
      let on = c.requires.0 in
      let leaves = c.requires.2.leaves in
      keys_made (keys_pre on size_fits leaves) on.coded.mask_size leaves.values c.make_keys.ensures

  least : back w32 c.next_key-key.result ≡ least_above (to_z w32 c.loop-trial.key-bits) c.make_keys.new.values (code_length code)
  least =
      back_is w32 c.next_key-key.result (record { sfits = c.next_key-key.type_inv }) ∙ c.next_key-key.ensures
      ∙ ap (least_above (to_z w32 c.loop-trial.key-bits) c.make_keys.new.values) c.requires.0.channel_size

  -- the index that is flipped
  module _ {i : ℕ} (index : i ≡ nat_abs (back w32 c.next_key-key.result) % longest) where
    next : i ≡ get_or order (made - 1) 0
    next = index ∙ next_index keyed last here least

    flips : Flips mask (code_length code) (i ∷ [])
    flips = subst (λ (j : ℕ). Flips mask (code_length code) (j ∷ [])) (sym next) (order_flips mask code v (made - 1) here)

    -- the trial
    module _ {q : ℕ} (resumed : q ≡ restart_at c.args.terms.restart mask (8 * length mask) i) {after : Arrays} {done : Work}
        (post : TrialPost longest code q (trial_by q c.args.first.now c.loop-trial.rules code v (i ∷ [])) after done) where
      abbrev at : ℕ
      at = restart_at c.args.terms.restart mask (code_length code) i

      made-is : TrialPost longest code at (later i) after done
      made-is = later_made c.loop-trial.invariant.2 c.requires.2.later.first_bits flips c.args.terms.restart c.requires.0.coded.mask_size resumed post

      took : done.steps ≡ (later i).work.steps
      took = ap (λ (w : Work). w.steps) made-is.work

      few : done.steps ≤ most_steps
      few = steps_fit c.requires.0.coded.n_most (omega (arith, took, later_steps mask code v (i ∷ []) at))

      -- its check
      module _ {ok : Bool} (checked : ok ≡ trial_passes mask code (take (code_length code) after.bits)) where
        ok-is : ok ≡ trial_passes mask code (later i).bits
        ok-is = checked ∙ ap (trial_passes mask code) made-is.bits

        passes-now : ok ≡ true → run (trial_passes mask code) 1 c.args.start (left later order (c.args.terms.limit - 1) 0) ≡ passed c.loop-trial.trial (c.loop-trial.steps + done.steps) (later i).bits
        passes-now e = loop_passes going long more next took (sym ok-is ∙ e) ∙ ap (λ (n : ℕ). passed n (c.loop-trial.steps + done.steps) (later i).bits) this

        goes-on : ok ≡ false → Going c.loop-trial.trial (c.loop-trial.steps + done.steps)
        goes-on e = subst (λ (n : ℕ). Going n (c.loop-trial.steps + done.steps)) this (loop_goes_on going long more next took (sym ok-is ∙ e) few)

pub make_keys-requires : goal.make_keys-requires
make_keys-requires c = keys_pre c.requires.0 (fits c.requires.0.coded.n_most) c.requires.2.leaves

pub loop-trial-init : goal.loop-trial-init
loop-trial-init c =
    let failed = c.requires.2 in (
      loop_starts c.requires.1.least (steps_fit c.requires.0.coded.n_most failed.later.start_most),
      last_none,
      failed.later.plain,
      record { work = failed.whole.work; bits = refl; sums = failed.whole.sums; leaves = refl },
    )

pub next_key-key-requires : goal.next_key-key-requires
next_key-key-requires c = omega (arith, c.requires.0.channel_size, fits c.requires.0.coded.n_most, c.make_keys.auto.values, c.requires.2.leaves.whole)

pub index_of-i-requires : goal.index_of-i-requires
index_of-i-requires c =
    let t = (goal.at.index_of-i-requires c).After-next_key-key in
    next_positive (keyed t) (last t) (here t) (least t)

pub restart_index-q-requires : goal.restart_index-q-requires
restart_index-q-requires c =
    let t = (goal.at.restart_index-q-requires c).After-next_key-key in
    let coded = c.requires.0.coded in
    let f = flips t c.index_of-i.ensures in
    (omega (arith, coded.mask_size, size_fits t), omega (arith, coded.mask_size, f.below 0 f.some))

pub later_trial-done-requires : goal.later_trial-done-requires
later_trial-done-requires c =
    let t = (goal.at.later_trial-done-requires c).After-next_key-key in
    let inv = c.loop-trial.invariant in (
      trial_on c.requires.0 inv.2.whole inv.3,
      later_pre inv.2 c.requires.2.later.first_bits (flips t c.index_of-i.ensures) c.args.terms.restart c.requires.0.coded.mask_size c.restart_index-q.ensures,
    )

pub overflow_add-steps : goal.overflow_add-steps
overflow_add-steps c =
    let t = (goal.at.overflow_add-steps c).After-next_key-key in
    omega (arith, few t c.index_of-i.ensures c.restart_index-q.ensures c.later_trial-done.ensures.0, (going t).few, made_most t)

pub trial_passes-requires : goal.trial_passes-requires
trial_passes-requires c =
    let t = (goal.at.trial_passes-requires c).After-next_key-key in
    let w = (made-is t c.index_of-i.ensures c.restart_index-q.ensures c.later_trial-done.ensures.0).whole in
    (c.requires.0.coded, omega (arith, w.bits, size_fits t), omega (arith, w.sums, size_fits t))

pub returns-then-trial_passes : goal.returns-then-trial_passes
returns-then-trial_passes c =
    let t = (goal.at.returns-then-trial_passes c).After-next_key-key in
    let index = c.index_of-i.ensures in
    let resumed = c.restart_index-q.ensures in
    let post = c.later_trial-done.ensures.0 in
    let m = made-is t index resumed post in (
      subst (λ (w : Verdict). Ran (mask t) (code t) w (Ok (tally c.loop-trial.trial (c.loop-trial.steps + c.later_trial-done.result.steps))) c.trial_passes.new.message)
          (sym (c.requires.2.later.goes_on _ ∙ passes-now t index resumed post c.trial_passes.ensures.0 c.if-trial_passes.true))
          (ran_passed c.requires.0.coded _ _ m.bits c.trial_passes.ensures.1 (later-bits (mask t) (code t) (v t) (c.index_of-i.result ∷ []) _)),
      c.trial_passes.auto.message ∙ m.whole.sums,
    )

pub loop-trial-preserved : goal.loop-trial-preserved
loop-trial-preserved c =
    let t = (goal.at.loop-trial-preserved c).After-next_key-key in
    let index = c.index_of-i.ensures in
    let resumed = c.restart_index-q.ensures in
    let post = c.later_trial-done.ensures.0 in
    let trial = c.loop-trial.trial in
    let again : trial ≡ trial + 1 - 1 = omega arith in
    let place : trial + 1 - 1 - 1 ≡ made t - 1 + 1 = omega (arith, (going t).least) in (
      subst (λ (n : ℕ). Going t n (c.loop-trial.steps + c.later_trial-done.result.steps)) again (goes-on t index resumed post c.trial_passes.ensures.0 c.if-trial_passes.false),
      next_place (keyed t) (last t) (here t) (least t) place,
      plain_after c.loop-trial.invariant.2 c.requires.2.later.first_bits (flips t index) c.args.terms.restart c.requires.0.coded.mask_size resumed c.later_trial-done.ensures.1 (size_fits t),
      arrays_again (made-is t index resumed post).whole (c.trial_passes.auto.message ∙ (made-is t index resumed post).whole.sums),
    )

pub returns : goal.returns
returns c =
    let inv = c.loop-trial.invariant in
    (ended c.args.terms _ c.requires.0 c.requires.1 c.requires.2.later inv.0 (omega (arith, c.loop-trial-test.false)), inv.3.sums)

pub returns-else-trial_passes : goal.returns-else-trial_passes
returns-else-trial_passes c =
    let t = (goal.at.returns-else-trial_passes c).After-next_key-key in
    let index = c.index_of-i.ensures in
    let resumed = c.restart_index-q.ensures in
    let post = c.later_trial-done.ensures.0 in (
      ended c.args.terms _ c.requires.0 c.requires.1 c.requires.2.later (goes-on t index resumed post c.trial_passes.ensures.0 c.if-trial_passes.false) (omega arith),
      c.trial_passes.auto.message ∙ (made-is t index resumed post).whole.sums,
    )
