-- The number of this answer has room for its parts.
use Rattle.polar.proofs.Answers.{of_adding}
use Rattle.polar.proofs.polar_hearing_add.Goals as goal

pub answer_number-requires : goal.answer_number-requires
answer_number-requires c = of_adding c.args.state.now c.args.channel.now c.add.ensures
