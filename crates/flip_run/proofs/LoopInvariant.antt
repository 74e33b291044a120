-- The loop over later trials: the run of all of them is, at each turn, the run of those that are left.
use mathlib.Core.Path.{◌≡◌, refl, sym, ap, ap₂, ◌∙◌}
use mathlib.Core.Bool.{Bool, true, false, cond}
use mathlib.Core.List.{List, [], ◌∷◌, map}
use Prim.Native.Nat.{ℕ, ◌+◌, ◌-◌, ◌*◌, ◌≤◌, ◌<◌}
use native.Mathlib.Numerals.{add-one}
use native.Mathlib.Omega.{arith}
use lib.ListN.{length, get_or, take, drop, drop_of_length-le}
use lib.Seq.{drop-cons, get_or-take, length-take-le}
use Rattle.arrays.specs.Claims.{most_steps}
use Rattle.pass_tree.specs.Node.{Out}
use Rattle.flip_run.specs.Trials.{Verdict, passed, failed, run}

-- one trial more
module _ (ok : List ℕ → Bool) (made steps : ℕ) (o : Out) (os : List Out) where
  turn : Bool → Verdict
  turn t = cond t (passed (made + 1) (steps + o.work.steps) o.bits) (run ok (made + 1) (steps + o.work.steps) os)

  pub run-passes : ok o.bits ≡ true → run ok made steps (o ∷ os) ≡ passed (made + 1) (steps + o.work.steps) o.bits
  unfolding run turn
  run-passes e = ap turn e

  pub run_fails : ok o.bits ≡ false → run ok made steps (o ∷ os) ≡ run ok (made + 1) (steps + o.work.steps) os
  unfolding run turn
  run_fails e = ap turn e

pub run_none : (ok : List ℕ → Bool) (made steps : ℕ) → run ok made steps [] ≡ failed made steps
unfolding run
run_none ok made steps = refl

-- the trials of `count` indices of an order, without the first j
abbrev pub left : (ℕ → Out) → List ℕ → ℕ → ℕ → List Out
left later order count j = map later (drop j (take count order))

module _ (later : ℕ → Out) (order : List ℕ) (count j : ℕ) where
  left-more : j < count → count ≤ length order → left later order count j ≡ later (get_or order j 0) ∷ left later order count (j + 1)
  left-more l m =
      ap (map later) (drop-cons (take count order) j 0 (omega (arith, length-take-le count order m)))
      ∙ ap₂ (λ (i n : ℕ). later i ∷ map later (drop n (take count order))) (get_or-take count order j 0 l) (sym (add-one j))

  left-none : count ≤ length order → count ≤ j → left later order count j ≡ []
  left-none m l = ap (map later) (drop_of_length-le (take count order) {i = j} (omega (arith, length-take-le count order m)))

-- `made` trials failed, and they took so many steps
pub record LoopInvariant (ok : List ℕ → Bool) (later : ℕ → Out) (order : List ℕ) (limit start made steps : ℕ) : Type 0 where
  pub least : 1 ≤ made
  pub most : made ≤ limit
  pub rest : run ok 1 start (left later order (limit - 1) 0) ≡ run ok made steps (left later order (limit - 1) (made - 1))
  pub few : steps ≤ most_steps * made

module _ {ok : List ℕ → Bool} {later : ℕ → Out} {order : List ℕ} {limit start : ℕ} where
  pub loop_starts : 1 ≤ limit → start ≤ most_steps → LoopInvariant ok later order limit start 1 start
  loop_starts l m = record { least = omega arith; most = l; rest = refl; few = m }

  module _ {made steps : ℕ} (g : LoopInvariant ok later order limit start made steps) (long : limit - 1 ≤ length order) where
    -- no trial is left
    pub loop_ends : limit ≤ made → run ok 1 start (left later order (limit - 1) 0) ≡ failed made steps
    loop_ends l =
        g.rest ∙ ap (run ok made steps) (left-none later order (limit - 1) (made - 1) long (omega arith)) ∙ run_none ok made steps

    -- the next one, in t steps
    module _ {i t : ℕ} (below : made < limit) (next : i ≡ get_or order (made - 1) 0) (took : t ≡ (later i).work.steps) where
      next-left : left later order (limit - 1) (made - 1) ≡ later i ∷ left later order (limit - 1) (made + 1 - 1)
      next-left =
          let m : made - 1 + 1 ≡ made + 1 - 1 = omega (arith, g.least) in
          left-more later order (limit - 1) (made - 1) (omega (arith, g.least)) long
          ∙ ap₂ (λ (x n : ℕ). later x ∷ left later order (limit - 1) n) (sym next) m

      pub loop_passes : ok (later i).bits ≡ true → run ok 1 start (left later order (limit - 1) 0) ≡ passed (made + 1) (steps + t) (later i).bits
      loop_passes e =
          g.rest ∙ ap (run ok made steps) next-left ∙ run-passes ok made steps (later i) _ e
          ∙ ap (λ (x : ℕ). passed (made + 1) (steps + x) (later i).bits) (sym took)

      pub loop_goes_on : ok (later i).bits ≡ false → t ≤ most_steps → LoopInvariant ok later order limit start (made + 1) (steps + t)
      loop_goes_on e few = record {
        least = omega arith;
        most = omega arith;
        rest =
            g.rest ∙ ap (run ok made steps) next-left ∙ run_fails ok made steps (later i) _ e
            ∙ ap (λ (x : ℕ). run ok (made + 1) (steps + x) (left later order (limit - 1) (made + 1 - 1))) (sym took);
        few = omega (arith, g.few);
      }
