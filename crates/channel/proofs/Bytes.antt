-- Bytes in two's complement, and the numbers that they stand for.
use mathlib.Core.Path.{◌≡◌, refl, ap}
use Prim.Native.Nat.{ℕ, zero, suc, ◌-◌, ◌%◌, ◌≤◌, ◌<◌}
use native.Mathlib.Omega.{arith}
use borrow.Author.Tests.{lt-ltb, le-ltb}
use lib.Dec.{ltb}
use lib.IntN.{ℤ, pos, negsuc, neg_ℤ, nat_abs, ◌-ℤ◌}
use Rattle.laws.proofs.Choice.{cond_ind}
use Rattle.channel.specs.Channel.{channel_value, byte_of}

-- −n as a byte
pub minus_byte : (k n : ℕ) → k ≡ n → n ≤ 31 → (256 - k) % 256 ≡ byte_of (neg_ℤ (pos n))
minus_byte k zero e h = omega arith
minus_byte k (suc n) e h = omega arith

-- the number of a number's byte
pub channel_byte : (z : ℤ) → nat_abs z ≤ 31 → channel_value (byte_of z) ≡ z
unfolding channel_value
channel_byte (pos n) h = rw (lt-ltb n 128 (omega arith))
channel_byte (negsuc n) h =
    let back : 256 - suc (256 - suc n) ≡ n = omega arith in
    rw (le-ltb (256 - suc n) 128 (omega arith), lt-ltb (256 - suc n) 256 (omega arith)) (ap negsuc back)

-- the byte of a byte's number
pub byte_channel : (b : ℕ) → b < 256 → byte_of (channel_value b) ≡ b
unfolding channel_value
byte_channel b l =
    cond_ind (λ (z : ℤ). byte_of z ≡ b) (ltb b 128) (pos b) (pos b -ℤ pos 256) (λ t. refl)
    (λ t. rw (lt-ltb b 256 l) (omega arith))
