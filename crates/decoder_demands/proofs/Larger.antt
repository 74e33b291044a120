-- What is accepted under a trial limit stays accepted under a larger one: the trials up to the smaller limit come first.
use mathlib.Core.Path.{◌≡◌, refl, sym, ap, ◌∙◌}
use mathlib.Core.List.{List}
use Prim.Native.Nat.{ℕ}
use Rattle.refusal.specs.Judge.{judge}
use Rattle.code.specs.Description.{mask_of}
use Rattle.channel.specs.Channel.{channel_values}
use Rattle.pass_tree.specs.Node.{Out}
use Rattle.flip_trial.specs.Trial.{trial_passes}
use Rattle.flip_run.specs.Trials.{run, answer_of, tally}
use Rattle.decoder.specs.Decoder.{refusals_of, trials_of}
use Rattle.decoder.proofs.Decoder.{fine-answer, answer-fine, under-code, other_fine}
use Rattle.decoder_demands.specs.Larger.{StaysAccepted}
use Rattle.decoder_demands.proofs.Answers.{accepts-more}
use Rattle.decoder_demands.proofs.Flips.{trials_begin}
use Rattle.std.specs.Prelude.{Ok}

-- the larger limit makes the same trials first, and the rest change nothing
pub stays_accepted : StaysAccepted
stays_accepted p p' restart d c channel output output' trial steps payload code g own size e =
    let mask : List ℕ = mask_of d in
    let b = trials_begin g restart mask c (channel_values channel) in
    let on = answer-fine p restart mask c channel output (Ok (tally trial steps), payload) refl (sym (under-code p restart d channel output c code) ∙ e) in
    let fine : judge (refusals_of p' c channel output') ≡ Ok tt = other_fine p p' c channel output output' own size on.0 in
    under-code p' restart d channel output' c code ∙ fine-answer p' restart mask c channel output' fine
    ∙ accepts-more mask c output output' (trials_of p' restart mask c (channel_values channel)) b.0 trial steps payload
    (ap (λ (os : List Out). answer_of mask c output (run (trial_passes mask c) 0 0 os)) b.1 ∙ on.1)
