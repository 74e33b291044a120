-- Fewer than eight bits leave room for one more.
use Rattle.std.proofs.Common.{ℕ, ◌+◌, ◌*◌, ◌<◌, List, get_or, refl, ap₂, add-one, arith}
use lib.Pow.{pow_mono}
use Rattle.bits.specs.Bit.{number}
use Rattle.bits.specs.Claims.{Bits}
use Rattle.bits.proofs.Number.{number_lt}
use Rattle.bits.proofs.packed_byte.Goals as goal

room : (bits : List ℕ) (m b : ℕ) → Bits bits → b < 8 → number (λ b. get_or bits (8 * m + b) 0) b < 128
room bits m b p l = omega (arith, number_lt (λ b. get_or bits (8 * m + b) 0) b (λ b. p.at (8 * m + b)), pow_mono {i = b} {j = 7} (omega arith))

pub loop-b-init : goal.loop-b-init
unfolding number
loop-b-init c = refl

pub overflow_mul-byte : goal.overflow_mul-byte
overflow_mul-byte c = omega (arith, c.loop-b.invariant, room c.args.bits.now c.args.m c.loop-b.b c.requires.0 c.loop-b-test.true)

pub overflow_add-byte : goal.overflow_add-byte
overflow_add-byte c =
    omega (arith, c.loop-b.invariant, room c.args.bits.now c.args.m c.loop-b.b c.requires.0 c.loop-b-test.true)

pub loop-b-preserved : goal.loop-b-preserved
unfolding number
loop-b-preserved c = rw add-one (ap₂ (λ (x y : ℕ). x * 2 + y) c.loop-b.invariant c.bit_or_zero.ensures)
