-- `pass_resume::judge_prefix` meets its contract: past each test that fails, what is left of the list decides.
use Rattle.std.proofs.Common.{◌≡◌, sym, ap, ◌∙◌, subst, arith, not, ℕ, ◌*◌, ◌%◌, ◌^◌, ◌≤◌, ◌<◌, length, Err}
use borrow.Author.Tests.{le-ltb, lt-ltb, eq-eqb, ne_eqb}
use Rattle.laws.proofs.Powers.{one_shl}
use Rattle.arrays.specs.Sizes.{largest_n}
use Rattle.refusal.specs.declared.Refusal.TheVariants.{PrefixBit}
use Rattle.refusal.proofs.Judge.{judge-none, judge_yes, judge_no}
use Rattle.pass_resume.proofs.judge_prefix.Goals as goal

-- the size of the code
size : {n : ℕ} → n ≤ largest_n → 1 * 2 ^ n % 2 ^ 64 ≡ 2 ^ n
size {n} most = one_shl n 64 (omega (arith, most))

pub overflow_shl-size : goal.overflow_shl-size
overflow_shl-size c = omega (arith, c.args.masked.now.coded.n_most)

pub returns-then-size-prefix : goal.returns-then-size-prefix
returns-then-size-prefix c =
    sym (judge_yes _ _ _ (lt-ltb _ _ (subst (λ (k : ℕ). k < length c.args.prefix.now) (size c.args.masked.now.coded.n_most) c.if-size-prefix.true)))

pub first_bad-index-requires : goal.first_bad-index-requires
first_bad-index-requires c =
    let coded = c.args.masked.now.coded in omega (arith, c.if-size-prefix.false, size coded.n_most, coded.mask_size)

pub returns-then-index-prefix : goal.returns-then-index-prefix
returns-then-index-prefix c =
    let i = c.first_bad-index.ensures in
    ap (λ (k : ℕ). Err (PrefixBit k)) i
    ∙ sym (judge_no _ _ _ (le-ltb _ _ (omega (arith, c.if-size-prefix.false, size c.args.masked.now.coded.n_most)))
    ∙ judge_yes _ _ _ (lt-ltb _ _ (subst (λ (k : ℕ). k < length c.args.prefix.now) i c.if-index-prefix.true)))

pub returns-then-output-size : goal.returns-then-output-size
returns-then-output-size c =
    let long = size c.args.masked.now.coded.n_most in
    sym (judge_no _ _ _ (le-ltb _ _ (omega (arith, c.if-size-prefix.false, long)))
    ∙ judge_no _ _ _ (le-ltb _ _ (omega (arith, c.first_bad-index.ensures, c.if-index-prefix.false)))
    ∙ judge_yes _ _ _ (ap not (ne_eqb _ _ (λ q. c.if-output-size.true (q ∙ sym long)))))

pub returns : goal.returns
returns c =
    let long = size c.args.masked.now.coded.n_most in
    sym (judge_no _ _ _ (le-ltb _ _ (omega (arith, c.if-size-prefix.false, long)))
    ∙ judge_no _ _ _ (le-ltb _ _ (omega (arith, c.first_bad-index.ensures, c.if-index-prefix.false)))
    ∙ judge_no _ _ _ (ap not (eq-eqb _ _ (c.if-output-size.false ∙ long))) ∙ judge-none)
