-- `code::judge_check` meets its contract: past each test that fails, what is left of the list decides.
use mathlib.Core.Path.{◌≡◌, sym, ap, ◌∙◌}
use mathlib.Core.List.{List}
use Prim.Native.Nat.{ℕ, ◌≤◌}
use native.Mathlib.Omega.{arith}
use borrow.Author.Rules.{rules}
use lib.ListN.{get_or, take, drop}
use Rattle.refusal.specs.Judge.{judge}
use Rattle.refusal.proofs.Judge.{judge-none, judge_yes, judge_no}
use Rattle.refusal.proofs.Tests.{outside-past}
use Rattle.code.specs.Description.{word, start_of, is_wide, bad_polynomial}
use Rattle.code.specs.Clauses.{description_refusals}
use Rattle.code.proofs.TwoKinds.{fields-there}
use Rattle.code.proofs.judge_check.Statement.{statement}
use Rattle.code.proofs.judge_check.Tie as tie
use Rattle.refusal.specs.Clauses.{Judgement}

-- the judgement once the first i tests have failed
abbrev past : ℕ → List ℕ → Judgement
past i d = judge (drop i (take 3 (drop 5 (description_refusals d))))

abbrev bytes : tie.After-shared_slice_known-2-1 → List ℕ
bytes c = c.before.before.args.d.now

abbrev d1 : tie.Else-is_outside → List ℕ
d1 c = bytes c.before.before

abbrev d2 : tie.Else-is_bad_polynomial → List ℕ
d2 c = d1 c.before.before.before

r_small : (c : tie.Else-is_outside) → get_or (d1 c) 5 0 ≤ 16
r_small c = (outside-past _ 1 16 (sym c.before.is_outside.ensures ∙ c.if-is_outside.false)).1

bad-is : (c : tie.After-is_bad_polynomial) → c.is_bad_polynomial.result ≡ bad_polynomial (word (d1 c.before.before) 6) (get_or (d1 c.before.before) 5 0)
bad-is c = c.is_bad_polynomial.ensures ∙ ap (λ (p : ℕ). bad_polynomial p (get_or (d1 c.before.before) 5 0)) c.before.read_word.ensures

wide_is : (c : tie.After-is_wide) → c.is_wide.result ≡ is_wide (start_of (d2 c.before.before)) (get_or (d2 c.before.before) 5 0)
wide_is c = c.is_wide.ensures ∙ ap (λ (s : ℕ). is_wide s (get_or (d2 c.before.before) 5 0)) c.before.start_of.ensures

past-1 : (c : tie.Else-is_outside) → past 0 (d1 c) ≡ past 1 (d1 c)
past-1 c = judge_no _ _ _ (sym c.before.is_outside.ensures ∙ c.if-is_outside.false)

past-2 : (c : tie.Else-is_bad_polynomial) → past 0 (d2 c) ≡ past 2 (d2 c)
past-2 c = past-1 c.before.before.before ∙ judge_no _ _ _ (sym (bad-is c.before) ∙ c.if-is_bad_polynomial.false)

pub judge_check_spec : {M : Type 1} → statement M
judge_check_spec =
    tie.close
    (tie.spec
    (λ c. omega (arith, fields-there c.before.before.args.d.now c.before.before.requires))
    (λ c. omega (arith, c.shared_slice_known-2-1.given 5))
    (λ c. omega (arith, c.shared_slice_known-2-1.given 5))
    (λ c κs. search rules)
    (λ c. sym (judge_yes _ _ _ (sym c.before.is_outside.ensures ∙ c.if-is_outside.true)))
    (λ c κs. omega (arith, fields-there c.before.before.before.before.args.d.now c.before.before.before.before.requires))
    (λ c κs. omega (arith, r_small c.before))
    (λ c. sym (past-1 c.before.before.before ∙ judge_yes _ _ _ (sym (bad-is c.before) ∙ c.if-is_bad_polynomial.true)))
    (λ c κs. search rules)
    (λ c κs. omega (arith, r_small c.before.before.before.before))
    (λ c. sym (past-2 c.before.before.before ∙ judge_yes _ _ _ (sym (wide_is c.before) ∙ c.if-is_wide.true)))
    (λ c. sym (past-2 c.before.before.before ∙ judge_no _ _ _ (sym (wide_is c.before) ∙ c.if-is_wide.false) ∙ judge-none)))
