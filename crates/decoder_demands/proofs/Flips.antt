-- The sets that the trials of a decoder flip. Only the laws of this file, `own-fine` and `own-past` look at which decoder it is.
use mathlib.Core.Path.{◌≡◌, sym, ap, ◌∙◌, subst}
use mathlib.Core.Logic.{◌⊎◌, inl, inr}
use mathlib.Core.List.{List, [], ◌∷◌, map, Memᴰ}
use Prim.Native.Nat.{ℕ, zero, suc, ◌+◌, ◌-◌, ◌<◌, ◌≤◌}
use native.Mathlib.Omega.{arith}
use lib.IntN.{ℤ}
use lib.ListN.{length, get_or, take, length-take, length-map}
use lib.Seq.{take-take}
use Rattle.laws.proofs.Indices.{lt_cases}
use Rattle.laws.proofs.Segment.{take-map}
use Rattle.code.specs.declared.Code.{Code}
use Rattle.code.specs.Code.{code_length, information_count}
use Rattle.code.specs.Claims.{Coded}
use Rattle.pass_tree.specs.Node.{Out}
use Rattle.flip_trial.specs.declared.Restart.{Restart}
use Rattle.flip_trial.specs.declared.Restart.TheVariants.{Root}
use Rattle.flip_trial.specs.Trial.{first_trial, later_trial}
use Rattle.flip_trial.specs.Flips.{Flips}
use Rattle.flip_run.specs.Trials.{flip_order}
use Rattle.flip_run.proofs.FlipOrder.{order_flips, length_order}
use Rattle.decoder.specs.Tried.{flip_sets}
use Rattle.decoder.specs.Decoder.{Decoder, single, sets, flips_of, trials_of}
use Rattle.decoder.specs.Claims.{Allowed}
use Rattle.decoder.specs.Clauses.{search_of, tried_by}
use Rattle.sets_tried.proofs.Sets.{flip_set_each}
use Rattle.sets_tried.proofs.Kept.{length-sets, take-sets}
use Rattle.sets_tried.proofs.All.{all-tried}
use Rattle.sets_tried.proofs.Same.{tried-by}
use Rattle.decoder_demands.specs.Agreement.{limit_of, AllTried}
use Rattle.decoder_demands.specs.Larger.{GoesOn, single_more, sets_more}
use Rattle.decoder_demands.proofs.Trials.{FlipsEach, flips_take}

-- indices that a trial can flip, each alone
flips_alone : (mask : List ℕ) (c : Code) (is : List ℕ) → ((a : ℕ) → a < length is → Flips mask (code_length c) (get_or is a 0 ∷ [])) → FlipsEach mask c (map (λ i. i ∷ []) is)
flips_alone mask c [] p a l = absurd (omega arith)
flips_alone mask c (i ∷ is) p zero l = p 0 (omega arith)
flips_alone mask c (i ∷ is) p (suc a) l = flips_alone mask c is (λ b k. p (suc b) (omega arith)) a (omega arith)

module _ (mask : List ℕ) (c : Code) (v : List ℤ) where
  abbrev singles : List (List ℕ)
  singles = map (λ i. i ∷ []) (flip_order mask c v)

  -- the sets of a search from the root
  pub sets_are : (w limit : ℕ) → tried_by (search_of Root w limit) mask c v ≡ flip_sets w limit mask c v
  sets_are w limit = tried-by (search_of Root w limit) mask c v

  -- each can be flipped
  pub flips_each : (p : Decoder) → FlipsEach mask c (flips_of p mask c v)
  flips_each (single limit) = flips_take mask c (limit - 1) singles (flips_alone mask c (flip_order mask c v) (order_flips mask c v))
  flips_each (sets w limit) = subst (FlipsEach mask c) (sets_are w limit) (λ a l. (flip_set_each (search_of Root w limit) mask c v a l).flips)

  -- a set of one index for each trial after the first, up to the limit
  pub length-singles : Coded mask c → (limit : ℕ) → 1 ≤ limit → limit ≤ information_count c + 1 → length (flips_of (single limit) mask c v) + 1 ≡ limit
  length-singles coded limit l m = omega (arith, length-take (limit - 1) singles, length-map (flip_order mask c v) (λ i. i ∷ []), length_order coded v)

  -- no more than the limit allows
  pub flips_most : Coded mask c → (p : Decoder) → Allowed p c → length (flips_of p mask c v) + 1 ≤ limit_of p
  flips_most coded (single limit) a = omega (arith, length-singles coded limit a.0 a.1)
  flips_most coded (sets w limit) a = omega (arith, length-sets (search_of Root w limit) mask c v, ap length (sets_are w limit), a.2)

  -- as many as it allows, or all that there are
  pub flips_all : Coded mask c → (p : Decoder) → Allowed p c → (length (flips_of p mask c v) + 1 ≡ limit_of p) ⊎ AllTried p mask c v
  flips_all coded (single limit) a = inl (length-singles coded limit a.0 a.1)
  flips_all coded (sets w limit) a =
      lt_cases (length (flip_sets w limit mask c v) + 1) limit
      (λ l. inr (λ is f m. subst (Memᴰ is) (sets_are w limit)
      (all-tried (search_of Root w limit) mask c v (omega (arith, ap length (sets_are w limit))) is (record { flips = f; most = m }))))
      (λ l. inl (omega (arith, flips_most coded (sets w limit) a)))

-- the sets of a decoder begin those of one that goes on
begins : {p p' : Decoder} → GoesOn p p' → (mask : List ℕ) (c : Code) (v : List ℤ) → (k : ℕ) × (flips_of p mask c v ≡ take k (flips_of p' mask c v))
begins (single_more {limit} {limit'} l) mask c v = (limit - 1, sym (take-take (limit - 1) (limit' - 1) (map (λ i. i ∷ []) (flip_order mask c v)) (omega arith)))
begins (sets_more {w} {limit} {limit'} l) mask c v =
    (limit - 1, sym (sets_are mask c v w limit) ∙ take-sets Root w limit limit' mask c v l ∙ ap (take (limit - 1)) (sets_are mask c v w limit'))

-- and so do its trials
pub trials_begin : {p p' : Decoder} → GoesOn p p' → (restart : Restart) (mask : List ℕ) (c : Code) (v : List ℤ) → (k : ℕ) × (take k (trials_of p' restart mask c v) ≡ trials_of p restart mask c v)
trials_begin {p} {p'} g restart mask c v =
    let b = begins g mask c v in
    let later : List ℕ → Out = later_trial restart mask c v in
    (suc b.0, ap (λ (os : List Out). first_trial mask c v ∷ os) (take-map later b.0 (flips_of p' mask c v) ∙ ap (map later) (sym b.1)))
