-- The run is that of a decoder by sets.
use Rattle.std.proofs.Common.{sym, ap, ◌∙◌, List, ◌∷◌, map, ℕ, ℤ}
use Rattle.channel.specs.Channel.{channel_values}
use Rattle.flip_trial.specs.Trial.{first_trial, later_trial, trial_passes}
use Rattle.flip_run.specs.Trials.{run, answer_of}
use Rattle.decoder.specs.Decoder.{sets}
use Rattle.decoder.proofs.Decoder.{fine-answer, spelt_out}
use Rattle.sets_tried.proofs.Same.{tried-by}
use Rattle.sets_decoder.proofs.SetsTrials.run.Goals as goal

-- what the run asks
pub decode_in-requires : goal.decode_in-requires
decode_in-requires c =
    let x = c.args in
    let w = (spelt_out (sets x.self.0.w x.self.0.limit) x.code x.channel.now x.output.now).1 c.requires.fine in
    record {
      sets = record {
        frame = record { coded = c.requires.coded; channel_size = w.channel_size; in_range = w.in_range };
        flips_least = w.allowed.0;
        flips_most = w.allowed.1;
        limit_least = w.allowed.2;
        limit_most = w.allowed.3;
      };
      output_size = w.output_size;
    }

pub returns : goal.returns
returns c =
    let x = c.args in
    let s = x.self.0 in
    let v : List ℤ = channel_values x.channel.now in
    c.decode_in.ensures
    ∙ ap (λ (flips : List (List ℕ)). answer_of x.mask.now x.code x.output.now (run (trial_passes x.mask.now x.code) 0 0 (first_trial x.mask.now x.code v ∷ map (later_trial s.restart x.mask.now x.code v) flips)))
    (tried-by s x.mask.now x.code v)
    ∙ sym (fine-answer (sets s.w s.limit) s.restart x.mask.now x.code x.channel.now x.output.now c.requires.fine)
