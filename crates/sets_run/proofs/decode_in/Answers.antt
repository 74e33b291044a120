-- The answer is that of how the run ended.
use Rattle.std.proofs.Common.{arith, ◌∙◌}
use Rattle.arrays.proofs.Sizes.{fits}
use Rattle.flip_run.proofs.LoopStep.{ran_answers, ran_bits}
use Rattle.sets_run.proofs.decode_in.Goals as goal

pub answer-requires : goal.answer-requires
answer-requires c =
    let x = c.args in
    let p = c.requires in
    let ran = c.run_trials-ended.ensures in
    (omega (arith, ran.1, p.sets.frame.coded.K_most, fits p.sets.frame.coded.n_most), ran_bits x.mask.now x.code _ c.run_trials-ended.result c.run_trials-ended.new.sums ran.0, p.output_size)

pub returns : goal.returns
returns c =
    let x = c.args in
    c.answer.ensures ∙ ran_answers x.mask.now x.code x.output.now _ c.run_trials-ended.result c.run_trials-ended.new.sums c.run_trials-ended.ensures.0
