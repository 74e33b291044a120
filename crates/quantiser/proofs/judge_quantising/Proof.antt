-- `quantiser::judge_quantising` meets its contract: after each test that fails, the tests that are left decide.
use mathlib.Core.Path.{◌≡◌, sym, ap, ◌∙◌}
use mathlib.Core.Bool.{Bool, not}
use mathlib.Core.List.{List}
use Prim.Native.Nat.{ℕ}
use native.Mathlib.Omega.{arith}
use borrow.Author.Rules.{rules}
use borrow.Author.Tests.{le-ltb, lt-ltb, ne_eqb}
use lib.ListN.{length, drop}
use Rattle.refusal.specs.declared.Refusal.{Refusal}
use Rattle.refusal.specs.Judge.{judge}
use Rattle.refusal.proofs.Judge.{judge-none, judge_yes, judge_no}
use Rattle.refusal.proofs.Tests.{differs_no}
use Rattle.quantiser.specs.Quantise.{first_nan, quantising_refusals}
use Rattle.quantiser.proofs.judge_quantising.Statement.{statement}
use Rattle.quantiser.proofs.judge_quantising.Tie as tie
use Rattle.refusal.specs.declared.Refusal.TheVariants.{NotANumber}
use Rattle.std.specs.Prelude.{Err}

-- the tests from i on
abbrev from : ℕ → tie.Start → List (Bool × Refusal)
from i s = drop i (quantising_refusals s.args.scale s.args.samples.now s.args.output.now)

-- the call's start, after each test
abbrev s1 : tie.Else-samples-output → tie.Start
s1 c = c.before.before.before

abbrev s2 : tie.Else-not-is_valid → tie.Start
s2 c = s1 c.before.before

abbrev s3 : tie.Else-index-samples → tie.Start
s3 c = s2 c.before.before

past-1 : (c : tie.Else-samples-output) → judge (from 0 (s1 c)) ≡ judge (from 1 (s1 c))
past-1 c = judge_no _ _ _ (differs_no _ _ c.if-samples-output.false)

past-2 : (c : tie.Else-not-is_valid) → judge (from 0 (s2 c)) ≡ judge (from 2 (s2 c))
past-2 c = past-1 c.before.before ∙ judge_no _ _ _ (ap not (sym c.is_valid.ensures ∙ c.if-not-is_valid.false))

past-3 : (c : tie.Else-index-samples) → judge (from 0 (s3 c)) ≡ judge (from 3 (s3 c))
past-3 c =
    let samples = (s3 c).args.samples.now in
    past-2 c.before.before ∙ judge_no _ _ _ (le-ltb (first_nan samples) (length samples) (omega arith))

returns : tie.Need-returns-then-samples-output
returns c = sym (judge_yes _ _ _ (ap not (ne_eqb _ _ c.if-samples-output.true)))

returns-2 : tie.Need-returns-then-not-is_valid
returns-2 c = sym (past-1 c.before.before ∙ judge_yes _ _ _ (ap not (sym c.is_valid.ensures ∙ c.if-not-is_valid.true)))

returns-3 : tie.Need-returns-then-index-samples
returns-3 c =
    let samples = c.args.samples.now in
    ap (λ (k : ℕ). Err (NotANumber k)) c.first_nan-index.ensures
    ∙ sym (past-2 c.before.before ∙ judge_yes _ _ _ (lt-ltb (first_nan samples) (length samples) (omega arith)))

pub judge_quantising_spec : {M : Type 1} → statement M
judge_quantising_spec =
    tie.close
    (tie.spec
    returns
    (λ c κs. search rules)
    returns-2
    (λ c κs. search rules)
    returns-3
    (λ c. sym (past-3 c ∙ judge-none)))
