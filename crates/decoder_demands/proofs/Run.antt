-- What a run of trials ends with.
use mathlib.Core.Path.{◌≡◌, refl, sym, ap, ap₂, ◌∙◌, subst}
use mathlib.Core.Bool.{Bool, true, false, cond, true≢false}
use mathlib.Core.List.{List, [], ◌∷◌, ◌++◌}
use Prim.Native.Nat.{ℕ, zero, suc, ◌+◌, ◌<◌, ◌≤◌}
use native.Mathlib.Nat.{zero-add}
use native.Mathlib.Numerals.{add-one}
use native.Mathlib.Omega.{arith}
use lib.ListN.{length, get_or, length-map}
use Rattle.laws.proofs.Indices.{lt_cases}
use Rattle.pass_tree.specs.Node.{Out}
use Rattle.flip_run.specs.Trials.{Verdict, passed, failed, run}
use Rattle.decoder_demands.specs.Claims.{bits_of_each, bits_of_trial, PassedAt, Ends, SameButSteps}

-- ---- one run

-- a verdict after `made` more trials with `steps` more steps
abbrev later : ℕ → ℕ → Verdict → Verdict
later made steps (passed trial s bits) = passed (trial + made) (s + steps) bits
later made steps (failed all s) = failed (all + made) (s + steps)

-- later, and later again
later-later : (m m' s s' : ℕ) (v : Verdict) → later m s (later m' s' v) ≡ later (m + m') (s + s') v
later-later m m' s s' (passed trial t bits) = ap₂ (λ (a b : ℕ). passed a b bits) (omega arith) (omega arith)
later-later m m' s s' (failed all t) = ap₂ failed (omega arith) (omega arith)

module _ (ok : List ℕ → Bool) where
  -- a run that goes on is a run from the start, counted later
  run-later : (m s : ℕ) (os : List Out) → run ok m s os ≡ later m s (run ok 0 0 os)
  unfolding run
  run-later m s [] = ap₂ failed (omega arith) (omega arith)
  run-later m s (o ∷ os) = go (ok o.bits) (run-later (m + 1) (s + o.work.steps) os) (run-later (0 + 1) (0 + o.work.steps) os)
    where
      go : (t : Bool) → run ok (m + 1) (s + o.work.steps) os ≡ later (m + 1) (s + o.work.steps) (run ok 0 0 os) → run ok (0 + 1) (0 + o.work.steps) os ≡ later (0 + 1) (0 + o.work.steps) (run ok 0 0 os)
          → cond t (passed (m + 1) (s + o.work.steps) o.bits) (run ok (m + 1) (s + o.work.steps) os) ≡ later m s (cond t (passed (0 + 1) (0 + o.work.steps) o.bits) (run ok (0 + 1) (0 + o.work.steps) os))
      go true e e' = ap₂ (λ (a b : ℕ). passed a b o.bits) (omega arith) (omega arith)
      go false e e' = e ∙ sym (ap (later m s) e' ∙ later-later m (0 + 1) s (0 + o.work.steps) (run ok 0 0 os) ∙ ap (λ (k : ℕ). later (m + 1) (s + k) (run ok 0 0 os)) (zero-add o.work.steps))

  -- after a trial that fails
  ends_later : (o : Out) (os : List Out) (v : Verdict) → ok o.bits ≡ false → Ends ok os v → Ends ok (o ∷ os) (later 1 o.work.steps v)
  ends_later o os (passed zero steps bits) f p = absurd (omega (arith, p.least))
  ends_later o os (passed (suc t) steps bits) f p =
      subst (λ (u : ℕ). PassedAt ok (o ∷ os) u (steps + o.work.steps) bits) (sym (add-one (suc t)))
      (record {
        least = omega arith;
        most = omega (arith, p.most);
        bits_are = p.bits_are;
        passes = p.passes;
        earlier = before;
        steps_are = omega (arith, p.steps_are);
      })
    where
      before : (u : ℕ) → 1 ≤ u → u < suc (suc t) → ok (bits_of_trial (o ∷ os) u) ≡ false
      before zero l m = absurd (omega arith)
      before (suc zero) l m = f
      before (suc (suc u)) l m = p.earlier (suc u) (omega arith) (omega arith)
  ends_later o os (failed made steps) f p = record { all = omega (arith, p.all); each = each; steps_are = omega (arith, p.steps_are) }
    where
      each : (u : ℕ) → 1 ≤ u → u ≤ length (o ∷ os) → ok (bits_of_trial (o ∷ os) u) ≡ false
      each zero l m = absurd (omega arith)
      each (suc zero) l m = f
      each (suc (suc u)) l m = p.each (suc u) (omega arith) (omega arith)

  -- at a first trial that passes
  ends_here : (o : Out) (os : List Out) → ok o.bits ≡ true → PassedAt ok (o ∷ os) 1 o.work.steps o.bits
  ends_here o os e = record { least = omega arith; most = omega arith; bits_are = refl; passes = e; earlier = λ t l m. absurd (omega arith); steps_are = omega arith }

  -- never `failed` before every trial failed, never `passed` with a trial that fails, and every earlier trial failed
  pub run_ends : (os : List Out) → Ends ok os (run ok 0 0 os)
  unfolding run
  run_ends [] = record { all = refl; each = λ t l m. absurd (omega arith); steps_are = refl }
  run_ends (o ∷ os) = go (ok o.bits) refl (run_ends os)
    where
      go : (t : Bool) → ok o.bits ≡ t → Ends ok os (run ok 0 0 os) → Ends ok (o ∷ os) (cond t (passed (0 + 1) (0 + o.work.steps) o.bits) (run ok (0 + 1) (0 + o.work.steps) os))
      go true e p = subst (λ (s : ℕ). PassedAt ok (o ∷ os) 1 s o.bits) (sym (zero-add o.work.steps)) (ends_here o os e)
      go false e p =
          subst (Ends ok (o ∷ os)) (sym (run-later (0 + 1) (0 + o.work.steps) os ∙ ap (λ (s : ℕ). later 1 s (run ok 0 0 os)) (zero-add o.work.steps))) (ends_later o os (run ok 0 0 os) e p)

  -- a first trial that passes ends the run
  pub run-first : (o : Out) (os : List Out) → ok o.bits ≡ true → run ok 0 0 (o ∷ os) ≡ passed 1 o.work.steps o.bits
  unfolding run
  run-first o os e = rw (e, zero-add o.work.steps)

  -- trials after one that passes change nothing
  pub run_more : (t s : ℕ) (bits : List ℕ) (made steps : ℕ) (os more : List Out) → run ok made steps os ≡ passed t s bits → run ok made steps (os ++ more) ≡ passed t s bits
  unfolding run
  run_more t s bits made steps [] more e = let z : ◌≡◌ {A = ℕ} 0 1 = cc in absurd (omega arith)
  run_more t s bits made steps (o ∷ os) more e = go (ok o.bits) (run_more t s bits (made + 1) (steps + o.work.steps) os more) e
    where
      go : (x : Bool) → (run ok (made + 1) (steps + o.work.steps) os ≡ passed t s bits → run ok (made + 1) (steps + o.work.steps) (os ++ more) ≡ passed t s bits)
          → cond x (passed (made + 1) (steps + o.work.steps) o.bits) (run ok (made + 1) (steps + o.work.steps) os) ≡ passed t s bits
          → cond x (passed (made + 1) (steps + o.work.steps) o.bits) (run ok (made + 1) (steps + o.work.steps) (os ++ more)) ≡ passed t s bits
      go true later e = e
      go false later e = later e

-- ---- two runs of trials with the same bits

-- they are as many
same_length : (os os' : List Out) → bits_of_each os ≡ bits_of_each os' → length os ≡ length os'
same_length os os' same = sym (length-map os (λ o. o.bits)) ∙ ap length same ∙ length-map os' (λ o. o.bits)

-- and each has the bits of the other's
same-trial : (os os' : List Out) → bits_of_each os ≡ bits_of_each os' → (t : ℕ) → bits_of_trial os t ≡ bits_of_trial os' t
same-trial os os' same zero = refl
same-trial os os' same (suc t) = ap (λ (bs : List (List ℕ)). get_or bs t []) same

-- if a trial of the one passes, not all of the other's trials up to it fail
not_failed : (ok : List ℕ → Bool) (os os' : List Out) → bits_of_each os ≡ bits_of_each os' → (t s : ℕ) (b : List ℕ) → PassedAt ok os t s b → ok (bits_of_trial os' t) ≡ false → ⊥
not_failed ok os os' same t s b p f = true≢false (sym p.passes ∙ ap ok (p.bits_are ∙ same-trial os os' same t) ∙ f)

module _ (ok : List ℕ → Bool) (os os' : List Out) (same : bits_of_each os ≡ bits_of_each os') where
  -- their verdicts agree but for the steps
  ends_same : (v v' : Verdict) → Ends ok os v → Ends ok os' v' → SameButSteps v v'
  ends_same (passed t s b) (passed t' s' b') p q =
      let c : t' ≤ t = lt_cases t t' (λ l. absurd (not_failed ok os os' same t s b p (q.earlier t p.least l))) (λ l. l) in
      let c' : t ≤ t' = lt_cases t' t (λ l. absurd (not_failed ok os' os (sym same) t' s' b' q (p.earlier t' q.least l))) (λ l. l) in
      let e : t ≡ t' = omega arith in
      (e, p.bits_are ∙ same-trial os os' same t ∙ ap (bits_of_trial os') e ∙ sym q.bits_are)
  ends_same (passed t s b) (failed m s') p q =
      not_failed ok os os' same t s b p (q.each t p.least (omega (arith, p.most, same_length os os' same)))
  ends_same (failed m s) (passed t' s' b') p q =
      not_failed ok os' os (sym same) t' s' b' q (p.each t' q.least (omega (arith, q.most, same_length os os' same)))
  ends_same (failed m s) (failed m' s') p q = p.all ∙ same_length os os' same ∙ sym q.all

  -- so the runs do
  pub run-same : SameButSteps (run ok 0 0 os) (run ok 0 0 os')
  run-same = ends_same (run ok 0 0 os) (run ok 0 0 os') (run_ends ok os) (run_ends ok os')
