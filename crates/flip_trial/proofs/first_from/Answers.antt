-- The number that the search finds in the range, or else the range's end, is the first information index.
use Rattle.std.proofs.Common.{rules, arith, tests, ◌≡◌, ◌+◌, ◌-◌, ◌*◌, ◌≤◌, ◌<◌, length, ℕ, List, Option, Some, None, MatchOption, sym, ap, ◌∙◌, eqb, eq-eqb}
use borrow.Author.Tests.{ne_eqb}
use Rattle.std.specs.Option.{unwrap_or}
use Rattle.std.proofs.lemmas.Iterator.{first_from_Range}
use Rattle.laws.proofs.First.{first-is}
use Rattle.bits.specs.Mask.{mask_bit}
use Rattle.flip_trial.specs.Clauses.{first_from}
use Rattle.flip_trial.proofs.first_from.Goals as goal

module _ (mask : List ℕ) (from : ℕ) where
  abbrev size : ℕ
  size = 8 * length mask

  abbrev Is : ℕ → Type 0
  Is j = mask_bit mask j ≡ 1

  abbrev Not : ℕ → Type 0
  Not j = Is j → ⊥

  abbrev NoneBefore : ℕ → Type 0
  NoneBefore j = (k : ℕ) → from ≤ k → k < j → Not k

  ends : (j : ℕ) → from ≤ j → j ≤ size → NoneBefore j → (j < size → Is j) → j ≡ first_from mask from (size - from)
  ends j low high none here =
      let back : from + (j - from) ≡ j = omega arith in
      let before = λ (k : ℕ) (l : k < j - from). ne_eqb (mask_bit mask (from + k)) 1 (none (from + k) (omega arith) (omega arith)) in
      let at = λ (l : j - from < size - from). eq-eqb _ 1 (ap (mask_bit mask) back ∙ here (omega arith)) in
      sym back ∙ ap (λ (k : ℕ). from + k) (sym (first-is (λ k. eqb (mask_bit mask (from + k)) 1) (size - from) (j - from) (omega arith) before at))

  found : from ≤ size → (j : Option ℕ) → MatchOption j (NoneBefore size) (λ i. (from ≤ i) × (i < size) × Is i × NoneBefore i) → unwrap_or j size ≡ first_from mask from (size - from)
  found l None none = ends size l (omega arith) none (λ h. absurd (omega arith))
  found l (Some i) p = ends i p.0 (omega (arith, p.1)) p.3 (λ h. p.2)

pub returns : goal.returns
returns c =
    let mask = c.args.mask.now in
    c.unwrap_or.ensures
    ∙ found mask c.args.from c.requires.1 c.find.result
    (first_from_Range _ _ _ _ (Is mask c.args.from) (Not mask c.args.from) c.find.ensures.ran
    (λ x q k. grind (arith, tests))
    (λ x q k. (search rules, grind (arith, tests))))
