use native.Mathlib.Omega.{arith}
use Rattle.channel.proofs.Inside.{inside_is}
use Rattle.channel.proofs.is_inside.Goals as goal

pub returns : goal.returns
returns c = inside_is c.args.byte (omega arith)
