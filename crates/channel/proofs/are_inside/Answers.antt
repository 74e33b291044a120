use Prim.Native.Nat.{ℕ}
use mathlib.Core.Path.{◌∙◌, ap, ap₂}
use mathlib.Core.Bool.{◌&&◌, Bool}
use Rattle.std.proofs.Common.{arith, ◌≡◌, length, ltb, nat_abs}
use lib.Dec.{leb}
use lib.ListN.{get_or}
use mathlib.Core.List.{List}
use Rattle.channel.specs.Channel.{channel_value, first_outside}
use Rattle.channel.proofs.Inside.{none-next, none-all}
use Rattle.channel.proofs.are_inside.Goals as goal

abbrev outside : List ℕ → ℕ → Bool
outside channel i = ltb 31 (nat_abs (channel_value (get_or channel i 0)))

pub loop-byte-preserved : goal.loop-byte-preserved
loop-byte-preserved c =
    let channel = c.args.channel.now in
    let i = c.loop-byte.byte-index in
    ap₂ ◌&&◌ c.loop-byte.invariant c.is_inside-inside.ensures ∙ none-next (outside channel) (length channel) i (omega arith)

pub returns : goal.returns
returns c =
    let channel = c.args.channel.now in
    let end : c.loop-byte.byte-index ≡ length channel = omega arith in
    c.loop-byte.invariant ∙ ap (λ (k : ℕ). leb k (first_outside channel)) end ∙ none-all (outside channel) (length channel)
