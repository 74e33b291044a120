-- The number of this answer has room for its parts.
use Rattle.polar.proofs.Answers.{of_encoding}
use Rattle.polar.proofs.polar_encode.Goals as goal

pub answer_number-requires : goal.answer_number-requires
answer_number-requires c = of_encoding _ _ _ c.encode.ensures
