-- What is found so far is whether the first index outside is not below the index.
use Rattle.std.proofs.Common.{◌≡◌}
use lib.Dec.{leb}
use Rattle.channel.specs.Channel.{first_outside}
use Rattle.channel.proofs.are_inside.Given as goal

abbrev pub invariant-loop-byte : goal.invariant-loop-byte
invariant-loop-byte l = l.inside ≡ leb l.byte-index (first_outside l.channel)
