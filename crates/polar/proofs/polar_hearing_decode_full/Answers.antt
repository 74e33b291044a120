-- The number of this answer has room for its parts.
use Rattle.hearing_buffer.specs.Lent.{state_in}
use Rattle.polar.proofs.Answers.{of_held}
use Rattle.polar.proofs.polar_hearing_decode_full.Goals as goal

pub answer_number-requires : goal.answer_number-requires
answer_number-requires c = of_held _ (state_in c.args.state.now) _ _ c.decode.ensures
