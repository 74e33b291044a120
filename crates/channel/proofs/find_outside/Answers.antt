use mathlib.Core.Path.{◌∙◌}
use borrow.Author.Tests.{tests}
use Prim.Native.Nat.{ℕ}
use Rattle.std.proofs.Common.{rules, ltb, nat_abs, Bool, ◌≡◌, true, false}
use Rattle.std.proofs.lemmas.Iterator.{IsFirst-from_position, YieldsList-from_slice}
use Rattle.laws.proofs.First.{position_first}
use Rattle.channel.specs.Channel.{channel_value}
use Rattle.channel.proofs.find_outside.Goals as goal

abbrev outside : ℕ → Bool
outside b = ltb 31 (nat_abs (channel_value b))

pub returns : goal.returns
returns c =
    c.unwrap_or.ensures
    ∙ position_first outside 0 c.args.channel.now c.position.result
    (IsFirst-from_position _ _ _ (λ b. outside b ≡ true) (λ b. outside b ≡ false) c.position.ensures.ran
    (YieldsList-from_slice c.args.channel.now (cc)) (λ x q k. search (rules, tests)) (λ x q k. search (rules, tests)))
