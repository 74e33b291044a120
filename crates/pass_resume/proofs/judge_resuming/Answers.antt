-- `pass_resume::judge_resuming` meets its contract: 12 and 13, then 17 to 19.
use Rattle.std.proofs.Common.{sym, ◌∙◌}
use Rattle.refusal.proofs.Judge.{append-fine, append_refused}
use Rattle.refusal.proofs.Passed.{passed_on}
use Rattle.channel.specs.Channel.{channel_refusals}
use Rattle.pass_resume.specs.Clauses.{prefix_refusals}
use Rattle.pass_resume.proofs.judge_resuming.Goals as goal

pub judge_channel-requires : goal.judge_channel-requires
judge_channel-requires c = c.args.masked.now.coded.n_most

pub returns-in_err-judge_channel : goal.returns-in_err-judge_channel
returns-in_err-judge_channel c =
    let x = c.args in
    let m = x.masked.now in
    passed_on _ _ c.from_residual.ensures
    ∙ sym (append_refused (channel_refusals m.code x.channel.now) (prefix_refusals m.mask.now m.code x.prefix.now x.output.now) _
    (sym c.judge_channel.ensures ∙ c.in_err-judge_channel.was))

pub returns : goal.returns
returns c =
    let x = c.args in
    let m = x.masked.now in
    c.judge_prefix.ensures
    ∙ sym (append-fine (channel_refusals m.code x.channel.now) (prefix_refusals m.mask.now m.code x.prefix.now x.output.now)
    (sym c.judge_channel.ensures ∙ c.in_ok-judge_channel.was))
