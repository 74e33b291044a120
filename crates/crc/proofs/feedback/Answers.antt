use Rattle.crc.proofs.Words.{masked}
use Rattle.crc.proofs.feedback.Goals as goal

pub returns : goal.returns
returns c = masked c.args.r c.args.poly c.requires
