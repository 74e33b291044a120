use Rattle.std.proofs.Common.{refl}
use Rattle.receive_record.proofs.Answers.{line_put, answer_equal, responded_is}
use Rattle.receive_record.proofs.respond.Goals as goal

pub returns-in-Description : goal.returns-in-Description
returns-in-Description c = answer_equal (responded_is _ _ c.read_header.ensures.0 c.in-Description.is) c.respond_description.ensures

pub returns-in-Channel : goal.returns-in-Channel
returns-in-Channel c = answer_equal (responded_is _ _ c.read_header.ensures.0 c.in-Channel.is) (line_put refl (rw c.bytes.ensures at c.put_channel.ensures))

pub returns-in-Other : goal.returns-in-Other
returns-in-Other c = answer_equal (responded_is _ _ c.read_header.ensures.0 c.in-Other.is) (line_put refl c.put_line.ensures)
