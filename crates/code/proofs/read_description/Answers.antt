-- `code::read_description` meets its contract: the tests of the layout, then those of the check, then refusal 8 or the code.
use Rattle.std.proofs.Common.{sym, ap, ◌∙◌, Bool, List, ◌++◌, ℕ, take, drop}
use Rattle.std.specs.Prelude.{Ok, Err}
use Rattle.refusal.specs.declared.Refusal.{Refusal}
use Rattle.refusal.specs.Judge.{refused_or}
use Rattle.refusal.proofs.Judge.{refused_by, append-fine, append_refused}
use Rattle.refusal.proofs.Passed.{passed_on}
use Rattle.code.specs.Description.{code_of, describe_up_to}
use Rattle.code.specs.Clauses.{description_refusals, Description}
use Rattle.code.proofs.WellFormed.{fine_laid}
use Rattle.code.proofs.read_description.Goals as goal
use Rattle.refusal.specs.Clauses.{Judgement}

-- the tests of the layout, of the check, and of refusal 8
module _ (d : List ℕ) where
  abbrev layout : List (Bool × Refusal)
  layout = take 5 (description_refusals d)

  abbrev check : List (Bool × Refusal)
  check = take 3 (drop 5 (description_refusals d))

  abbrev ones : List (Bool × Refusal)
  ones = drop 8 (description_refusals d)

  -- the answer by a judgement
  abbrev by : Judgement → Description
  by j = refused_or j Err (Ok (code_of d))

pub returns-in_err-judge_layout : goal.returns-in_err-judge_layout
unfolding describe_up_to
returns-in_err-judge_layout c =
    let d = c.args.d.now in
    passed_on _ _ c.from_residual.ensures ∙ sym (refused_by Err (Ok (code_of d)) _ _ (append_refused (layout d) (check d ++ ones d) _ (sym c.judge_layout.ensures ∙ c.in_err-judge_layout.was)))

pub judge_check-requires : goal.judge_check-requires
judge_check-requires c = (fine_laid c.args.d.now (sym c.judge_layout.ensures ∙ c.in_ok-judge_layout.was)).header

pub returns-in_err-judge_check : goal.returns-in_err-judge_check
unfolding describe_up_to
returns-in_err-judge_check c =
    let d = c.args.d.now in
    passed_on _ _ c.from_residual-in_err-judge_check.ensures
    ∙ sym (refused_by Err (Ok (code_of d)) _ _
    (append-fine (layout d) (check d ++ ones d) (sym c.judge_layout.ensures ∙ c.in_ok-judge_layout.was)
    ∙ append_refused (check d) (ones d) _ (sym c.judge_check.ensures ∙ c.in_err-judge_check.was)))

pub read_code-requires : goal.read_code-requires
read_code-requires c = fine_laid c.args.d.now (sym c.judge_layout.ensures ∙ c.in_ok-judge_layout.was)

pub returns : goal.returns
unfolding describe_up_to
returns c =
    let d = c.args.d.now in
    c.read_code.ensures
    ∙ sym (ap (by d) (append-fine (layout d) (check d ++ ones d) (sym c.judge_layout.ensures ∙ c.in_ok-judge_layout.was)
    ∙ append-fine (check d) (ones d) (sym c.judge_check.ensures ∙ c.in_ok-judge_check.was)))
