-- Metrics are small: on channel values within 31 every candidate that a run generates has a metric below 2^32.
use mathlib.Core.Path.{◌≡◌, refl, ap, ◌∙◌}
use mathlib.Core.List.{List, [], ◌∷◌, ◌++◌, Memᴰ}
use Prim.Native.Nat.{ℕ, zero, suc, ◌*◌, ◌<◌, ◌≤◌, ◌^◌}
use native.Mathlib.Nat.{suc-mul, mul-le-mul_right}
use native.Mathlib.Omega.{arith}
use lib.IntN.{ℤ, pos, nat_abs}
use lib.ListN.{length, get_or, take, length-append}
use lib.Pow.{pow_mono}
use lib.Seq.{get_or_at}
use Rattle.code.specs.declared.Code.{Code}
use Rattle.code.specs.Code.{code_length}
use Rattle.code.specs.Claims.{Coded}
use Rattle.values.specs.Values.{mask_rule}
use Rattle.values.specs.Claims.{Within}
use Rattle.pass_tree.proofs.Leaves.{within-leaves}
use Rattle.flip_trial.specs.declared.Restart.{Restart}
use Rattle.flip_trial.specs.Trial.{first_trial, flip_rule, forced_prefix, restart_at, later_trial}
use Rattle.decoder.specs.declared.Search.{Search}
use Rattle.decoder.specs.Candidate.{past_largest, magnitudes, Candidate}
use Rattle.decoder.specs.Clauses.{leaves_of, generated_by}
use Rattle.decoder.proofs.Metric.{doubtful-most}
use Rattle.sets_tried.proofs.Members.{past-last, generated-member}

-- ---- the parts of a metric

magnitudes-most : {m : ℕ} (leaves : List ℤ) → Within m leaves → (is : List ℕ) → magnitudes leaves is ≤ length is * m
magnitudes-most leaves small [] = omega arith
magnitudes-most {m} leaves small (i ∷ is) = omega (arith, small.at i, magnitudes-most leaves small is, suc-mul (length is) m)

-- a set's last index is its largest
past-snoc : (is : List ℕ) (j : ℕ) → past_largest (is ++ (j ∷ [])) ≡ suc j
past-snoc is j = past-last (is ++ (j ∷ [])) (length is) (omega (arith, length-append is (j ∷ []))) ∙ ap suc (get_or_at is j [] 0 (length is) refl)

-- ---- the leaf values of a trial

kept_small : {m : ℕ} (q : ℕ) (xs ys : List ℤ) → Within m xs → Within m ys → (j : ℕ) → nat_abs (get_or (take q xs ++ ys) j (pos 0)) ≤ m
kept_small zero xs ys p r j = r.at j
kept_small (suc q) [] ys p r j = r.at j
kept_small (suc q) (x ∷ xs) ys p r zero = p.at 0
kept_small (suc q) (x ∷ xs) ys p r (suc j) = kept_small q xs ys (record { at = λ k. p.at (suc k) }) r j

module _ (mask : List ℕ) (c : Code) (v : List ℤ) (small : Within 31 v) where
  first_small : Within (31 * code_length c) (first_trial mask c v).leaves
  first_small = within-leaves c.n 31 [] (mask_rule mask) v small

  leaves-small : (restart : Restart) (is : List ℕ) → Within (31 * code_length c) (leaves_of restart mask c v is)
  leaves-small restart [] = first_small
  leaves-small restart (i ∷ is) =
      let q : ℕ = restart_at restart mask (code_length c) i in
      let later = within-leaves c.n 31 (forced_prefix (first_trial mask c v).bits i q) (flip_rule mask (i ∷ is)) v small in
      record { at = kept_small q (first_trial mask c v).leaves (later_trial restart mask c v (i ∷ is)).leaves first_small later }

  -- three magnitudes of at most 31 · 2^n, and 6 for each of at most 2^n indices
  generated-most : (s : Search) → s.w ≤ 3 → (is : List ℕ) {x : Candidate} → Memᴰ x (generated_by s mask c v is) → x.metric ≤ 99 * code_length c
  generated-most s few is {x} p =
      let g = generated-member s mask c v is p in
      let leaves : List ℤ = leaves_of s.restart mask c v is in
      let set : List ℕ = is ++ (g.1.0 ∷ []) in
      let short : length set ≤ 3 = omega (arith, length-append is (g.1.0 ∷ []), g.0) in
      omega (
        arith,
        ap (λ (y : Candidate). y.metric) g.1.4,
        magnitudes-most leaves (leaves-small s.restart is) set,
        mul-le-mul_right (31 * code_length c) short,
        doubtful-most mask leaves (past_largest set),
        past-snoc is g.1.0,
        g.1.1,
      )

  -- so no metric exceeds 32 bits
  pub generated-small : Coded mask c → (s : Search) → s.w ≤ 3 → (is : List ℕ) {x : Candidate} → Memᴰ x (generated_by s mask c v is) → x.metric < 2 ^ 32
  generated-small coded s few is p = omega (arith, generated-most s few is p, pow_mono coded.n_most)
