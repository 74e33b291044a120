-- `code::judge_layout` meets its contract: past each test that fails, what is left of the list decides.
use mathlib.Core.Path.{◌≡◌, sym, ap, ◌∙◌}
use mathlib.Core.Bool.{not}
use mathlib.Core.List.{List}
use Prim.Native.Nat.{ℕ, ◌+◌, ◌*◌, ◌/◌, ◌%◌, ◌^◌, ◌≤◌}
use native.Mathlib.Omega.{arith}
use borrow.Author.Rules.{rules}
use borrow.Author.Tests.{ltb-false, eq-eqb, ne_eqb}
use lib.ListN.{length, get_or, take, drop}
use Rattle.laws.proofs.Powers.{one_shl}
use Rattle.refusal.specs.Judge.{judge}
use Rattle.refusal.proofs.Judge.{judge-none, judge_yes, judge_no}
use Rattle.refusal.proofs.Tests.{outside-past}
use Rattle.arrays.specs.Sizes.{largest_n}
use Rattle.code.specs.Description.{word, is_description, mask_at}
use Rattle.code.specs.Clauses.{description_refusals}
use Rattle.code.proofs.TwoKinds.{mask_at-most, fields-there}
use Rattle.code.proofs.judge_layout.Statement.{statement}
use Rattle.code.proofs.judge_layout.Tie as tie
use Rattle.refusal.specs.Clauses.{Judgement}

-- the judgement once the first i tests have failed
abbrev past : ℕ → List ℕ → Judgement
past i d = judge (drop i (take 5 (description_refusals d)))

-- the bytes, past each test
abbrev d1 : tie.Else-is_short → List ℕ
d1 c = c.before.before.before.args.d.now

abbrev d2 : tie.Else-read_word-d → List ℕ
d2 c = d1 c.before.before

abbrev d3 : tie.Else-not-is_description → List ℕ
d3 c = d2 c.before.before.before

abbrev d4 : tie.Else-is_outside → List ℕ
d4 c = d3 c.before.before.before

-- the slice has the fields of every kind
fields : (c : tie.Else-is_short) → 8 ≤ length (d1 c)
fields c =
    let d = d1 c in
    fields-there d (ltb-false (length d) (mask_at (word d 2)) (sym c.before.is_short.ensures ∙ c.if-is_short.false))

kind-is : (c : tie.After-is_description) → c.is_description.result ≡ is_description (word (d2 c.before.before) 2)
kind-is c = c.is_description.ensures ∙ ap is_description c.before.read_word-kind.ensures

n-small : (c : tie.Else-is_outside) → get_or (d4 c) 4 0 ≤ largest_n
n-small c = (outside-past _ 3 largest_n (sym c.before.is_outside.ensures ∙ c.if-is_outside.false)).1

-- the length that kind and n ask for
module _ (c : tie.After-mask_at) where
  abbrev d : List ℕ
  d = d4 c.before

  at-is : c.mask_at.result ≡ mask_at (word d 2)
  at-is = c.mask_at.ensures ∙ ap mask_at c.before.before.before.before.before.before.read_word-kind.ensures

  size : c.mask_at.result + 1 * 2 ^ get_or d 4 0 % 2 ^ 64 / 8 ≡ mask_at (word d 2) + 2 ^ get_or d 4 0 / 8
  size = omega (arith, at-is, one_shl (get_or d 4 0) 64 (omega (arith, n-small c.before)))

past-1 : (c : tie.Else-is_short) → past 0 (d1 c) ≡ past 1 (d1 c)
past-1 c = judge_no _ _ _ (sym c.before.is_short.ensures ∙ c.if-is_short.false)

past-2 : (c : tie.Else-read_word-d) → past 0 (d2 c) ≡ past 2 (d2 c)
past-2 c = past-1 c.before.before ∙ judge_no _ _ _ (ap not (eq-eqb _ _ (sym c.before.read_word.ensures ∙ c.if-read_word-d.false)))

past-3 : (c : tie.Else-not-is_description) → past 0 (d3 c) ≡ past 3 (d3 c)
past-3 c = past-2 c.before.before.before ∙ judge_no _ _ _ (sym (ap not (kind-is c.before)) ∙ ap not c.if-not-is_description.false)

past-4 : (c : tie.Else-is_outside) → past 0 (d4 c) ≡ past 4 (d4 c)
past-4 c = past-3 c.before.before.before ∙ judge_no _ _ _ (sym c.before.is_outside.ensures ∙ c.if-is_outside.false)

pub judge_layout_spec : {M : Type 1} → statement M
judge_layout_spec =
    tie.close
    (tie.spec
    (λ c κs. search rules)
    (λ c. sym (judge_yes _ _ _ (sym c.before.is_short.ensures ∙ c.if-is_short.true)))
    (λ c κs. omega (arith, fields c))
    (λ c. search rules)
    (λ c. sym (past-1 c.before.before ∙ judge_yes _ _ _ (ap not (ne_eqb _ _ (λ e. c.if-read_word-d.true (c.before.read_word.ensures ∙ e))))))
    (λ c κs. omega (arith, fields c.before.before))
    (λ c κs. search rules)
    (λ c. sym (past-2 c.before.before.before ∙ judge_yes _ _ _ (sym (ap not (kind-is c.before)) ∙ ap not c.if-not-is_description.true)))
    (λ c. omega (arith, fields c.before.before.before.before.before.before))
    (λ c. omega (arith, c.shared_slice_known-2-1.given 4))
    (λ c. omega (arith, c.shared_slice_known-2-1.given 4))
    (λ c. search rules)
    (λ c κs. search rules)
    (λ c. sym (past-3 c.before.before.before ∙ judge_yes _ _ _ (sym c.before.is_outside.ensures ∙ c.if-is_outside.true)))
    (λ c κs. search rules)
    (λ c. omega (arith, n-small c.before))
    (λ c. omega (arith, n-small c.before))
    (λ c. omega (arith, at-is c, mask_at-most (word (d c) 2)))
    (λ c. sym (past-4 c.before.before ∙ judge_yes _ _ _ (ap not (ne_eqb _ _ (λ e. c.if-d-mask_at.true (e ∙ sym (size c.before)))))))
    (λ c. sym (past-4 c.before.before ∙ judge_no _ _ _ (ap not (eq-eqb _ _ (c.if-d-mask_at.false ∙ size c.before))) ∙ judge-none)))
