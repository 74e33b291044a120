-- The run is that of a decoder by single flips.
use Rattle.std.proofs.Common.{sym, ap, ◌∙◌, arith, List}
use Rattle.channel.specs.Channel.{channel_values}
use Rattle.pass_tree.specs.Node.{Out}
use Rattle.flip_trial.specs.Trial.{trial_passes}
use Rattle.flip_run.specs.Trials.{run, answer_of}
use Rattle.decoder.specs.Decoder.{single}
use Rattle.decoder.proofs.Decoder.{fine-answer, spelt_out}
use Rattle.decoder.proofs.Single.{trials_are}
use Rattle.flip_decoder.proofs.SingleTrials.run.Goals as goal

-- what the run asks
pub decode_in-requires : goal.decode_in-requires
decode_in-requires c =
    let x = c.args in
    let w = (spelt_out (single x.self.0.limit) x.code x.channel.now x.output.now).1 c.requires.fine in
    record {
      limits = record { least = w.allowed.0; most = w.allowed.1 };
      frame = record { coded = c.requires.coded; channel_size = w.channel_size; in_range = w.in_range };
      output_size = omega arith;
    }

pub returns : goal.returns
returns c =
    let x = c.args in
    c.decode_in.ensures
    ∙ ap (λ (os : List Out). answer_of x.mask.now x.code x.output.now (run (trial_passes x.mask.now x.code) 0 0 os)) (trials_are x.self.0 x.mask.now x.code (channel_values x.channel.now))
    ∙ sym (fine-answer (single x.self.0.limit) x.self.0.restart x.mask.now x.code x.channel.now x.output.now c.requires.fine)
