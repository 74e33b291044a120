-- What the quantiser writes is never refused 13, and 12 only for its length: its bytes are channel values within -31..31.
use mathlib.Core.Path.{◌≡◌}
use mathlib.Core.List.{List}
use Prim.Native.Nat.{ℕ}
use native.Mathlib.Omega.{arith}
use borrow.Author.Tests.{le-ltb}
use lib.Ieee.{Float}
use lib.ListN.{length}
use Rattle.laws.proofs.First.{first-is}
use Rattle.channel.specs.Channel.{channel_value, first_outside}
use Rattle.quantiser.specs.declared.Summary.{Summary}
use Rattle.quantiser.specs.Quantise.{quantised}
use Rattle.quantiser.proofs.Accepted.{channel_values_lem}
use Rattle.std.specs.Prelude.{Ok}

pub quantised_in_range : (scale : Float) (samples : List Float) (output : List ℕ) (s : Summary) (written : List ℕ) → quantised scale samples output ≡ (Ok s, written) → first_outside written ≡ length written
unfolding channel_value
quantised_in_range scale samples output s written done =
    first-is _ (length written) (length written) (omega arith) (λ k l. le-ltb 31 _ (channel_values_lem scale samples output s written done k l))
    (λ l. absurd (omega arith))
