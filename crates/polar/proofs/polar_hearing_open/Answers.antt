-- The number of this answer has room for its parts.
use Rattle.polar.proofs.Answers.{of_opening}
use Rattle.polar.proofs.polar_hearing_open.Goals as goal

pub answer_number-requires : goal.answer_number-requires
answer_number-requires c = of_opening c.args.description.now c.args.state.now c.open.ensures
