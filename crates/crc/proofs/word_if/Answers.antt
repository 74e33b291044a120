-- The word is doubled if `out` is 1, and then taken off once.
use Rattle.std.proofs.Common.{◌≡◌, ℕ, zero, suc, ◌+◌, ◌*◌, ◌%◌, ◌^◌, ◌<◌, arith}
use Rattle.crc.proofs.word_if.Goals as goal

moved_up : (out word : ℕ) → out < 2 → word < 2 ^ 16 → word * 2 ^ out % 2 ^ 32 ≡ word + out * word
moved_up zero word o l = omega arith
moved_up (suc zero) word o l = omega arith
moved_up (suc (suc out)) word o l = absurd (omega arith)

pub returns : goal.returns
returns c = omega (arith, moved_up c.args.out c.args.word c.requires.0 c.requires.1)
