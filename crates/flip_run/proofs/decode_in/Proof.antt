-- `flip_run::decode_in` meets its contract: the answer is that of how the run ended.
use mathlib.Core.Path.{◌≡◌, refl, sym, ◌∙◌}
use mathlib.Core.List.{List}
use Prim.Native.Nat.{ℕ}
use native.Mathlib.Omega.{arith}
use borrow.Author.Rules.{rules}
use lib.ListN.{length}
use Rattle.arrays.specs.Claims.{longest}
use Rattle.arrays.proofs.Sizes.{fits}
use Rattle.flip_run.specs.Clauses.{Ran, verdict_by}
use Rattle.flip_run.proofs.LoopStep.{ran_answers, ran_bits}
use Rattle.flip_run.proofs.decode_in.Statement.{statement}
use Rattle.flip_run.proofs.decode_in.Tie as tie

run-trials-requires : tie.Need-run_trials-ended-requires
run-trials-requires c κs =
    let p = c.requires in
    (p.frame, p.limits, refl)

-- the run
module _ (c : tie.After-run_trials-ended) where
  abbrev s : tie.Start
  s = c.before.before.before.before.before

  abbrev message : List ℕ
  message = c.run_trials-ended.new.sums

  same-room : length message ≡ longest
  same-room = c.run_trials-ended.ensures.1

  ran : Ran s.args.mask.now s.args.code (verdict_by s.args.terms s.args.mask.now s.args.code s.args.channel.now) c.run_trials-ended.result message
  ran = c.run_trials-ended.ensures.0

answer-requires : tie.Need-answer-requires
answer-requires c κs =
    let r = c.before.before in
    let x = (s r).args in
    let p = (s r).requires in
    (omega (arith, same-room r, p.frame.coded.K_most, fits p.frame.coded.n_most), ran_bits x.mask.now x.code (verdict_by x.terms x.mask.now x.code x.channel.now) r.run_trials-ended.result (message r) (ran r), p.output_size)

returns : tie.Need-returns
returns c =
    let x = (s c.before.before.before.before.before).args in
    c.answer.ensures
    ∙ ran_answers x.mask.now x.code x.output.now (verdict_by x.terms x.mask.now x.code x.channel.now) c.run_trials-ended.result (message c.before.before.before.before.before) (ran c.before.before.before.before.before)

pub decode_in_spec : {M : Type 1} → statement M
decode_in_spec =
    tie.close
    (tie.spec
    run-trials-requires
    (λ c. sym (same-room c.before))
    answer-requires
    (λ c. search rules)
    returns)
