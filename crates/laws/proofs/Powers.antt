-- Powers of two, as sizes that are halved.
use mathlib.Core.Path.{◌≡◌, refl, ap, ◌∙◌}
use Prim.Native.Nat.{ℕ, zero, suc, ◌+◌, ◌-◌, ◌*◌, ◌/◌, ◌%◌, ◌^◌, ◌<◌}
use native.Mathlib.Nat.{two-pow-succ, one-mul}
use native.Mathlib.Omega.{arith}
use lib.Dec.{lit<}
use lib.Pow.{shl_exact}

-- half of a power of two
pub half_pow : (n size : ℕ) → (n ≡ 0 → ⊥) → size ≡ 2 ^ n → size / 2 ≡ 2 ^ (n - 1)
half_pow zero size f e = absurd (f refl)
half_pow (suc m) size f e =
    let q : 2 ^ suc m ≡ 2 ^ m + 2 ^ m = two-pow-succ m in
    let p : 2 ^ (suc m - 1) ≡ 2 ^ m = ap (λ (k : ℕ). 2 ^ k) (omega arith) in
    omega arith

pub two_halves : (n size : ℕ) → (n ≡ 0 → ⊥) → size ≡ 2 ^ n → size ≡ size / 2 + size / 2
two_halves zero size f e = absurd (f refl)
two_halves (suc m) size f e = let q : 2 ^ suc m ≡ 2 ^ m + 2 ^ m = two-pow-succ m in omega arith

-- `1 << n` at a width w above n
pub one_shl : (n w : ℕ) → n < w → 1 * 2 ^ n % 2 ^ w ≡ 2 ^ n
one_shl n w h = shl_exact 1 n w (lit< tt) (omega arith) ∙ one-mul (2 ^ n)
