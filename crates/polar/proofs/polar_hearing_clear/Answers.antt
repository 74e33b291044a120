-- The number of this answer has room for its parts.
use Rattle.polar.proofs.Answers.{of_clearing}
use Rattle.polar.proofs.polar_hearing_clear.Goals as goal

pub answer_number-requires : goal.answer_number-requires
answer_number-requires c = of_clearing c.args.state.now c.clear.ensures
