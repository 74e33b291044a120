-- `decoder::judge_call` meets its contract: refusals 12 and 13 first, then the decoder's own, then 15.
use Rattle.std.proofs.Common.{sym, ◌∙◌, ◌++◌, rules}
use Rattle.refusal.proofs.Judge.{append-fine, append_refused}
use Rattle.refusal.proofs.Passed.{passed_on}
use Rattle.channel.specs.Channel.{channel_refusals}
use Rattle.decoder.specs.Decoder.{own_refusals}
use Rattle.decoder.specs.Clauses.{output_refusals}
use Rattle.decoder.proofs.judge_call.Goals as goal

pub returns-in_err-judge_channel : goal.returns-in_err-judge_channel
returns-in_err-judge_channel c p own =
    let x = c.args in
    passed_on _ _ c.from_residual.ensures
    ∙ sym (append_refused (channel_refusals x.code x.channel.now) (own_refusals p x.code ++ output_refusals x.code x.output.now) _
    (sym c.judge_channel.ensures ∙ c.in_err-judge_channel.was))

pub returns-in_err-own : goal.returns-in_err-own
returns-in_err-own c p own =
    let x = c.args in
    let output = output_refusals x.code x.output.now in
    passed_on _ _ c.from_residual-in_err-own.ensures
    ∙ sym (append-fine (channel_refusals x.code x.channel.now) (own_refusals p x.code ++ output) (sym c.judge_channel.ensures ∙ c.in_ok-judge_channel.was)
    ∙ append_refused (own_refusals p x.code) output _ (search rules))

pub returns : goal.returns
returns c p own =
    let x = c.args in
    let output = output_refusals x.code x.output.now in
    c.judge_output.ensures
    ∙ sym (append-fine (channel_refusals x.code x.channel.now) (own_refusals p x.code ++ output) (sym c.judge_channel.ensures ∙ c.in_ok-judge_channel.was)
    ∙ append-fine (own_refusals p x.code) output (search rules))
