-- The loop over later trials: at each turn the run of all of them is the run of those that are left, and the queue holds the untried sets.
use mathlib.Core.Path.{◌≡◌, refl, sym, ap, ◌∙◌, subst}
use mathlib.Core.Bool.{true, false}
use mathlib.Core.Logic.{inr}
use mathlib.Core.List.{List, [], ◌∷◌, map, Memᴰ}
use Prim.Native.Nat.{ℕ, zero, suc, ◌+◌, ◌-◌, ◌*◌, ◌^◌, ◌<◌, ◌≤◌}
use native.Mathlib.Omega.{arith}
use lib.IntN.{ℤ}
use lib.ListN.{length, get_or, drop}
use Rattle.arrays.specs.Claims.{most_steps}
use Rattle.arrays.proofs.Sizes.{fits}
use Rattle.code.specs.declared.Code.{Code}
use Rattle.code.specs.Code.{code_length}
use Rattle.code.specs.Claims.{Coded}
use Rattle.channel.specs.Channel.{channel_values}
use Rattle.pass_tree.specs.Node.{Out}
use Rattle.flip_trial.specs.Trial.{later_trial, trial_passes}
use Rattle.flip_run.specs.Trials.{Verdict, passed, failed, run}
use Rattle.flip_run.proofs.LoopInvariant.{run-passes, run_fails, run_none}
use Rattle.decoder.specs.declared.Search.{Search}
use Rattle.decoder.specs.Candidate.{Candidate, insert_each}
use Rattle.decoder.specs.Tried.{tried}
use Rattle.decoder.specs.Clauses.{generated_by, tried_by}
use Rattle.sets_tried.specs.Claims.{FlipSet}
use Rattle.sets_tried.proofs.Members.{insert_each_keeps, generated_flips, first_flips}
use Rattle.sets_queue.specs.Clauses.{base, set_key, digit_at, indices_of, Digits, Untried, insert_keys, with_keys}
use Rattle.sets_queue.proofs.Keys.{keys_insert_each, first_some, indices_back}
use Rattle.sets_run.specs.Clauses.{SetsPre, first_untried}

tried-none : (generate : List ℕ → List Candidate) (m : ℕ) → tried generate m [] ≡ []
unfolding tried
tried-none generate zero = refl
tried-none generate (suc m) = refl

tried-more : (generate : List ℕ → List Candidate) (m : ℕ) (x : Candidate) (xs : List Candidate) → tried generate (suc m) (x ∷ xs) ≡ x.flips ∷ tried generate m (insert_each m (generate x.flips) xs)
unfolding tried
tried-more generate m x xs = refl

module _ (s : Search) (mask : List ℕ) (c : Code) (v : List ℤ) where
  -- the run of the trials of some sets
  abbrev pub run_of : ℕ → ℕ → List (List ℕ) → Verdict
  run_of made steps sets = run (trial_passes mask c) made steps (map (later_trial s.restart mask c v) sets)

  -- a set that can be tried
  abbrev Good : Candidate → Type 0
  Good x = FlipSet mask (code_length c) s.w x.flips

  -- so many trials are made, in so many steps, trial 1 included; the queue holds the untried sets
  pub record Searching (start trials steps : ℕ) (queue : Untried) (untried : List Candidate) : Type 0 where
    pub rest : run_of 1 start (tried_by s mask c v) ≡ run_of trials steps (tried (generated_by s mask c v) queue.room untried)
    pub few : steps ≤ most_steps * trials
    pub each : (x : Candidate) → Memᴰ x untried → Good x
    pub holds : queue.keys ≡ map set_key untried
    pub limit : trials + queue.room ≡ s.limit

-- no set is tried yet
pub search_starts : {s : Search} {mask : List ℕ} {c : Code} (channel : List ℕ) {start : ℕ} {queue : Untried} → start ≤ most_steps → 1 ≤ s.limit → queue ≡ first_untried s mask c channel
    → Searching s mask c (channel_values channel) start 1 start queue (insert_each (s.limit - 1) (generated_by s mask c (channel_values channel) []) [])
search_starts {s} {mask} {c} channel {start} few some e =
    let v : List ℤ = channel_values channel in
    let m : ℕ = s.limit - 1 in
    let room = ap (λ (q : Untried). q.room) e in
    record {
      rest = ap (λ (k : ℕ). run_of s mask c v 1 start (tried (generated_by s mask c v) k (insert_each m (generated_by s mask c v []) []))) (sym room);
      few = omega arith;
      each = first_flips s mask c v m;
      holds = ap (λ (q : Untried). q.keys) e;
      limit = omega (arith, room);
    }

-- a set that can be tried has a key
pub good_digits : {mask : List ℕ} {c : Code} {w : ℕ} → Coded mask c → w ≤ 3 → {is : List ℕ} → FlipSet mask (code_length c) w is → Digits 3 is
good_digits coded most f = record { few = omega (arith, f.most); below = λ a l. omega (arith, f.flips.below a l, fits coded.n_most) }

module _ {s : Search} {mask : List ℕ} {c : Code} {v : List ℤ} {start trials steps : ℕ} {queue : Untried} where
  -- no set is left
  pub search_ends : {untried : List Candidate} → Searching s mask c v start trials steps queue untried → queue.keys ≡ [] → run_of s mask c v 1 start (tried_by s mask c v) ≡ failed trials steps
  search_ends {untried = []} g e = g.rest ∙ ap (run_of s mask c v trials steps) (tried-none (generated_by s mask c v) queue.room) ∙ run_none (trial_passes mask c) trials steps
  search_ends {untried = x ∷ xs} g e = absurd (omega (arith, ap length (sym g.holds ∙ e)))

  -- the set of the least key, and the others
  pub search_next : {untried : List Candidate} {key : ℕ} {ks : List ℕ} → Searching s mask c v start trials steps queue untried → queue.keys ≡ key ∷ ks
      → (x : Candidate) × (xs : List Candidate) × Searching s mask c v start trials steps queue (x ∷ xs) × (key ≡ set_key x) × (ks ≡ map set_key xs)
  search_next {untried = []} g e = absurd (omega (arith, ap length (sym e ∙ g.holds)))
  search_next {untried = x ∷ xs} g e = let q = sym e ∙ g.holds in (x, xs, g, ap (λ (ks : List ℕ). get_or ks 0 0) q, ap (drop 1) q)

module _ {s : Search} {mask : List ℕ} {c : Code} {v : List ℤ} {channel : List ℕ} {start trials steps : ℕ} {queue : Untried} {x : Candidate} {xs : List Candidate}
    (on : SetsPre s mask c channel) (g : Searching s mask c v start trials steps queue (x ∷ xs)) where
  this : FlipSet mask (code_length c) s.w x.flips
  this = g.each x (Memᴰ.head refl)

  digits : {is : List ℕ} → FlipSet mask (code_length c) s.w is → Digits 3 is
  digits = good_digits on.frame.coded on.flips_most

  module _ {key : ℕ} (e : key ≡ set_key x) where
    pub next_some : 0 < digit_at (base ^ 2) key
    next_some = subst (λ (k : ℕ). 0 < digit_at (base ^ 2) k) (sym e) (first_some x.metric x.flips this.flips.some (digits this))

    pub next_indices : indices_of key ≡ x.flips
    next_indices = ap indices_of e ∙ indices_back x.metric x.flips this.flips.some (digits this)

  -- its trial
  module _ {is : List ℕ} (same : is ≡ x.flips) where
    abbrev later : Out
    later = later_trial s.restart mask c v is

    abbrev new : List Candidate
    new = generated_by s mask c v is

    pub next_flips : FlipSet mask (code_length c) s.w is
    next_flips = subst (FlipSet mask (code_length c) s.w) (sym same) this

    -- the queue after it was taken
    module _ (after : Untried) (room : queue.room ≡ after.room + 1) where
      next-rest : run_of s mask c v 1 start (tried_by s mask c v) ≡ run_of s mask c v trials steps (is ∷ tried (generated_by s mask c v) after.room (insert_each after.room new xs))
      next-rest =
          let more : queue.room ≡ suc after.room = omega arith in
          g.rest
          ∙ ap (run_of s mask c v trials steps)
          (ap (λ (k : ℕ). tried (generated_by s mask c v) k (x ∷ xs)) more ∙ tried-more (generated_by s mask c v) after.room x xs
          ∙ ap (λ (js : List ℕ). js ∷ tried (generated_by s mask c v) after.room (insert_each after.room (generated_by s mask c v js) xs)) (sym same))

      -- its trial passes, in t steps
      module _ {t : ℕ} (took : t ≡ (later_trial s.restart mask c v is).work.steps) where
        pub search_passes : trial_passes mask c (later_trial s.restart mask c v is).bits ≡ true → run_of s mask c v 1 start (tried_by s mask c v) ≡ passed (trials + 1) (steps + t) (later_trial s.restart mask c v is).bits
        search_passes e =
            next-rest ∙ run-passes (trial_passes mask c) trials steps later _ e
            ∙ ap (λ (k : ℕ). passed (trials + 1) (steps + k) later.bits) (sym took)

        -- it fails, and what it generates is inserted
        pub search_goes_on : trial_passes mask c (later_trial s.restart mask c v is).bits ≡ false → t ≤ most_steps → after.keys ≡ map set_key xs → {queue' : Untried} → queue' ≡ with_keys (map set_key (generated_by s mask c v is)) after
            → Searching s mask c v start (trials + 1) (steps + t) queue' (insert_each after.room (generated_by s mask c v is) xs)
        search_goes_on e l ks {queue'} p =
            let good : (y : Candidate) → Memᴰ y new → Good s mask c v y = λ y. generated_flips s mask c v is (inr next_flips) in
            let left : (y : Candidate) → Memᴰ y xs → Good s mask c v y = λ y q. g.each y (Memᴰ.tail q) in
            let room' : queue'.room ≡ after.room = ap (λ (q : Untried). q.room) p in
            record {
              rest =
                  next-rest ∙ run_fails (trial_passes mask c) trials steps later _ e
                  ∙ ap (λ (k : ℕ). run_of s mask c v (trials + 1) (steps + k) (tried (generated_by s mask c v) after.room (insert_each after.room new xs))) (sym took)
                  ∙ ap (λ (k : ℕ). run_of s mask c v (trials + 1) (steps + t) (tried (generated_by s mask c v) k (insert_each after.room new xs))) (sym room');
              few = omega (arith, g.few);
              each = insert_each_keeps (Good s mask c v) after.room new xs good left;
              holds =
                  ap (λ (q : Untried). q.keys) p
                  ∙ ap (insert_keys after.room (map set_key new)) ks
                  ∙ sym (keys_insert_each after.room new xs (λ y q. digits (good y q)) (λ y q. digits (left y q)));
              limit = omega (arith, g.limit, room');
            }
