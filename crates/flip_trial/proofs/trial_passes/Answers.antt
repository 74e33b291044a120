-- The message that was taken out is what the check goes by.
use Rattle.std.proofs.Common.{◌≡◌, ◌∙◌, ap, take}
use Rattle.code.specs.Code.{code_length, information_count, divisor, start_bits}
use Rattle.crc.specs.Check.{passes}
use Rattle.flip_trial.specs.Trial.{message_in}
use Rattle.flip_trial.proofs.Message.{message-at}
use Rattle.flip_trial.proofs.trial_passes.Goals as goal

pub returns : goal.returns
returns c =
    let code = c.args.code in
    let taken : take (information_count code) c.take_out.new.message ≡ message_in c.args.mask.now code (take (code_length code) c.args.bits.now) =
    message-at c.requires.0 c.args.bits.now c.args.message.now _ c.requires.2 c.take_out.ensures.1 in
    (c.passes.ensures ∙ ap (passes (divisor code) (start_bits code) code.k) taken, taken)
