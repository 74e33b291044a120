-- The exclusive-or of many bits.
use mathlib.Core.Path.{◌≡◌, refl, sym, ap, ap₂, ◌∙◌}
use Prim.Native.Nat.{ℕ, zero, suc, ◌+◌, ◌%◌, ◌<◌}
use native.Mathlib.Nat.{add-zero, add-suc, add-mod}
use native.Mathlib.Omega.{arith}
use Rattle.transform.specs.Transform.{parity}

pub parity_lt : (f : ℕ → ℕ) (n : ℕ) → parity f n < 2
unfolding parity
parity_lt f zero = omega arith
parity_lt f (suc n) = omega arith

pub parity_ext : (f g : ℕ → ℕ) (n : ℕ) → ((i : ℕ) → i < n → f i ≡ g i) → parity f n ≡ parity g n
unfolding parity
parity_ext f g zero h = refl
parity_ext f g (suc n) h = ap₂ (λ (x y : ℕ). (x + y) % 2) (parity_ext f g n (λ i l. h i (omega arith))) (h n (omega arith))

pub parity-zeros : (n : ℕ) → parity (λ _. 0) n ≡ 0
unfolding parity
parity-zeros zero = refl
parity-zeros (suc n) = omega (arith, parity-zeros n)

-- the first m bits and the n after them
pub parity-add : (f : ℕ → ℕ) (m n : ℕ) → parity f (m + n) ≡ (parity f m + parity (λ i. f (m + i)) n) % 2
unfolding parity
parity-add f m zero = ap (parity f) (add-zero m) ∙ omega (arith, parity_lt f m)
parity-add f m (suc n) = ap (parity f) (add-suc m n) ∙ omega (arith, parity-add f m n)

-- of bits that are exclusive-ors themselves
pub parity-xor : (f g : ℕ → ℕ) (n : ℕ) → parity (λ i. (f i + g i) % 2) n ≡ (parity f n + parity g n) % 2
unfolding parity
parity-xor f g zero = refl
parity-xor f g (suc n) =
    ap (λ (x : ℕ). (x + (f n + g n) % 2) % 2) (parity-xor f g n)
    ∙ sym (add-mod (parity f n + parity g n) (f n + g n) 2)
    ∙ ap (λ (x : ℕ). x % 2) (omega arith)
    ∙ add-mod (parity f n + f n) (parity g n + g n) 2
