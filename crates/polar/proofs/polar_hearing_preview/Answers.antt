-- The number of this answer has room for its parts.
use Rattle.polar.proofs.Answers.{of_previewing}
use Rattle.polar.proofs.polar_hearing_preview.Goals as goal

pub answer_number-requires : goal.answer_number-requires
answer_number-requires c = of_previewing c.args.state.now c.args.channel.now _ _ c.preview_in.ensures.0
