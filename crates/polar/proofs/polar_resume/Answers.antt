-- The number of this answer has room for its parts.
use Rattle.polar.proofs.Answers.{of_resuming}
use Rattle.polar.proofs.polar_resume.Goals as goal

pub answer_number-requires : goal.answer_number-requires
answer_number-requires c = of_resuming _ _ _ _ c.resume.ensures
