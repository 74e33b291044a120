use Rattle.std.proofs.Common.{arith}
use Rattle.std.proofs.lemmas.Int.{ints}
use Rattle.channel.specs.Channel.{channel_value}
use Rattle.channel.proofs.channel_value.Goals as goal

pub returns : goal.returns
unfolding channel_value
returns c = grind (arith, ints)
