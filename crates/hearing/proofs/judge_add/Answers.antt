-- `hearing::judge_add` meets its contract: refusals 12 and 13 first, then 27.
use Rattle.std.proofs.Common.{sym, ◌∙◌, Bool, List, [], ◌∷◌, ℕ, eqb}
use borrow.Author.Tests.{eq-eqb, ne_eqb}
use Rattle.refusal.specs.declared.Refusal.{Refusal}
use Rattle.refusal.specs.declared.Refusal.TheVariants.{HearingFull}
use Rattle.refusal.proofs.Judge.{judge-none, judge_yes, judge_no, append-fine, append_refused}
use Rattle.refusal.proofs.Passed.{passed_on}
use Rattle.channel.specs.Channel.{channel_refusals}
use Rattle.hearing.proofs.judge_add.Goals as goal

-- the test of the count, after those of the channel
abbrev second : ℕ → List (Bool × Refusal)
second count = (eqb count 255, HearingFull) ∷ []

pub returns-in_err-judge_channel : goal.returns-in_err-judge_channel
returns-in_err-judge_channel c =
    let x = c.args in
    passed_on _ _ c.from_residual.ensures
    ∙ sym (append_refused (channel_refusals x.code x.channel.now) (second x.count) _ (sym c.judge_channel.ensures ∙ c.in_err-judge_channel.was))

pub returns-then-count-eq255 : goal.returns-then-count-eq255
returns-then-count-eq255 c =
    let x = c.args in
    sym (append-fine (channel_refusals x.code x.channel.now) (second x.count) (sym c.judge_channel.ensures ∙ c.in_ok-judge_channel.was)
    ∙ judge_yes _ _ _ (eq-eqb x.count 255 c.if-count-eq255.true))

pub returns : goal.returns
returns c =
    let x = c.args in
    sym (append-fine (channel_refusals x.code x.channel.now) (second x.count) (sym c.judge_channel.ensures ∙ c.in_ok-judge_channel.was)
    ∙ judge_no _ _ _ (ne_eqb x.count 255 c.if-count-eq255.false) ∙ judge-none)
