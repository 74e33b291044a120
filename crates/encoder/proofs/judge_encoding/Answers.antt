-- `encoder::judge_encoding` meets its contract: after each test that fails, the tests that are left decide.
use Rattle.std.proofs.Common.{◌≡◌, sym, ap, ◌∙◌, arith, not, List, ℕ, ◌/◌, length}
use borrow.Author.Tests.{eq-eqb, ne_eqb}
use Rattle.refusal.proofs.Judge.{judge-none, judge_yes, judge_no}
use Rattle.code.specs.declared.Code.{Code}
use Rattle.code.specs.Code.{code_length}
use Rattle.code.specs.Claims.{Coded}
use Rattle.encoder.proofs.judge_encoding.Goals as goal

-- as many bytes as the mask has
bytes_of : {mask : List ℕ} {c : Code} → Coded mask c → length mask ≡ code_length c / 8
bytes_of p = omega (arith, p.mask_size)

pub returns-then-payload-bytes_for : goal.returns-then-payload-bytes_for
returns-then-payload-bytes_for c = sym (judge_yes _ _ _ (ap not (ne_eqb _ _ (λ e. c.if-payload-bytes_for.true (e ∙ sym c.bytes_for.ensures)))))

pub returns-then-has_unused_bit : goal.returns-then-has_unused_bit
returns-then-has_unused_bit c =
    sym (judge_no _ _ _ (ap not (eq-eqb _ _ (c.if-payload-bytes_for.false ∙ c.bytes_for.ensures)))
    ∙ judge_yes _ _ _ (sym c.has_unused_bit.ensures ∙ c.if-has_unused_bit.true))

pub returns-then-output-size : goal.returns-then-output-size
returns-then-output-size c =
    sym (judge_no _ _ _ (ap not (eq-eqb _ _ (c.if-payload-bytes_for.false ∙ c.bytes_for.ensures)))
    ∙ judge_no _ _ _ (sym c.has_unused_bit.ensures ∙ c.if-has_unused_bit.false)
    ∙ judge_yes _ _ _ (ap not (ne_eqb _ _ (λ q. c.if-output-size.true (q ∙ sym (bytes_of c.args.masked.now.coded))))))

pub returns : goal.returns
returns c =
    sym (judge_no _ _ _ (ap not (eq-eqb _ _ (c.if-payload-bytes_for.false ∙ c.bytes_for.ensures)))
    ∙ judge_no _ _ _ (sym c.has_unused_bit.ensures ∙ c.if-has_unused_bit.false)
    ∙ judge_no _ _ _ (ap not (eq-eqb _ _ (c.if-output-size.false ∙ bytes_of c.args.masked.now.coded))) ∙ judge-none)
