-- The number of this answer has room for its parts.
use Rattle.polar.proofs.Answers.{of_decoding}
use Rattle.polar.proofs.polar_decode_sets_restarted.Goals as goal

pub answer_number-requires : goal.answer_number-requires
answer_number-requires c = of_decoding _ _ _ _ _ c.decode_sets_restarted.ensures
