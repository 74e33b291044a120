-- The bits before q are copied, or the three parts stand side by side.
use Rattle.std.proofs.Common.{◌≡◌, ◌+◌, ◌-◌, ◌<◌, ◌≤◌, arith, List, [], ◌∷◌, ◌++◌, append_assoc, take, set, replicate, length, ℕ, sym, ap, ◌∙◌}
use Rattle.std.proofs.lemmas.List.{length-take-le, length-append, length-replicate, length-set}
use borrow.Rule.Slice.PartMut.{put_mid, mid_of, mid_len}
use mathlib.Core.Path.{ap₂}
use Rattle.laws.specs.Clauses.{splice}
use Rattle.laws.proofs.Segment.{splice-next, length-splice, put_mid-splice}
use Rattle.laws.proofs.Filling.{splice-snoc}
use Rattle.flip_trial.proofs.Prefix.{forced-before, forced-past}
use Rattle.flip_trial.proofs.put_prefix.Goals as goal

-- past i: the bits after each step
module _ (bits first : List ℕ) (i q x : ℕ) (past : i < q) (fits : q ≤ length bits) (same : length first ≡ length bits) {bits₁ : List ℕ}
    (e : bits₁ ≡ splice bits 0 (take i first)) where
  abbrev zeros : ℕ
  zeros = q - (i + 1)

  abbrev front : List ℕ
  front = take i first ++ (x ∷ [])

  copy-length : length (take i first) ≡ i
  copy-length = length-take-le i first (omega arith)

  turned : set bits₁ i x ≡ splice bits 0 front
  turned = ap₂ (λ (w : List ℕ) (k : ℕ). set w k x) e (omega arith) ∙ splice-snoc bits 0 (take i first) i x copy-length (omega arith)

  turned-length : length (set bits₁ i x) ≡ length bits
  turned-length = length-set bits₁ i x ∙ ap length e ∙ length-splice bits 0 (take i first) i copy-length (omega arith)

  cleared : {part : List ℕ} → part ≡ replicate (length (mid_of (i + 1) zeros (set bits₁ i x))) 0 → put_mid (i + 1) zeros (set bits₁ i x) part ≡ splice bits 0 (take i first ++ (x ∷ replicate zeros 0))
  cleared {part} none =
      let filled : part ≡ replicate zeros 0 = none ∙ ap (λ (n : ℕ). replicate n 0) (mid_len (i + 1) q (set bits₁ i x) (omega (arith, turned-length))) in
      put_mid-splice (set bits₁ i x) part (replicate zeros 0) (i + 1) zeros filled (sym (length-replicate {A = ℕ} zeros 0))
      ∙ ap₂ (λ (w : List ℕ) (k : ℕ). splice w k (replicate zeros 0)) turned (omega arith)
      ∙ splice-next bits 0 front (replicate zeros 0) (i + 1) zeros (omega (arith, copy-length, length-append (take i first) (x ∷ []))) (length-replicate {A = ℕ} zeros 0) (omega arith)
      ∙ ap (splice bits 0) (append_assoc (take i first) (x ∷ []) (replicate zeros 0))

pub returns-then-q-i : goal.returns-then-q-i
returns-then-q-i c =
    let first = c.args.first.now in
    let q = c.args.q in
    c.copy.ensures
    ∙ ap (splice c.args.bits.now 0) (sym (forced-before first c.args.i q (omega arith) (omega arith)))

pub returns : goal.returns
returns c =
    let first = c.args.first.now in
    let bits = c.args.bits.now in
    let i = c.args.i in
    let q = c.args.q in
    cleared bits first i q _ (omega arith) (omega arith) (omega arith) c.copy-2.ensures (c.fill.ensures.after (λ y e. e))
    ∙ ap (splice bits 0) (sym (forced-past first i q (omega arith) (omega arith)))
