-- `decoder::decode_by` meets its contract: a refusal, or the trials of a well-formed call.
use Rattle.std.proofs.Common.{sym, ap, ◌∙◌, arith}
use Rattle.refusal.proofs.Passed.{passed_on}
use Rattle.arrays.proofs.Sizes.{fits}
use Rattle.flip_run.specs.Clauses.{Decoded}
use Rattle.decoder.proofs.Decoder.{refused_answer}
use Rattle.decoder.proofs.decode_by.Goals as goal

pub judge_own-own-requires : goal.judge_own-own-requires
judge_own-own-requires g c = omega (arith, c.requires.K_most, fits c.requires.n_most)

pub judge_call-requires : goal.judge_call-requires
judge_call-requires g c = c.requires.n_most

pub returns-in_err-judge_call : goal.returns-in_err-judge_call
returns-in_err-judge_call g c =
    let x = c.args in
    let t = g.T.Trials in
    ap (λ (r : Decoded). (r, x.output.now)) (passed_on _ _ c.from_residual.ensures)
    ∙ sym (refused_answer (t.decoder x.trials) (t.restart x.trials) x.mask.now x.code x.channel.now x.output.now _
    (sym (c.judge_call.ensures (t.decoder x.trials) c.judge_own-own.ensures) ∙ c.in_err-judge_call.was))

pub run-requires : goal.run-requires
run-requires g c =
    record {
      coded = c.requires;
      fine = sym (c.judge_call.ensures (g.T.Trials.decoder c.args.trials) c.judge_own-own.ensures) ∙ c.in_ok-judge_call.was;
    }
