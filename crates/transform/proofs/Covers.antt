-- Which indices cover which, with one bit more.
use mathlib.Core.Path.{◌≡◌, refl, sym, ap, ap₂, ◌∙◌, subst}
use mathlib.Core.Bool.{Bool, ◌&&◌}
use Prim.Native.Nat.{ℕ, zero, suc, ◌+◌, ◌*◌, ◌%◌, ◌^◌, ◌<◌}
use native.Mathlib.Nat.{one-mul, div-eq_of_lt}
use native.Mathlib.Omega.{arith}
use lib.Dec.{leb}
use lib.Pow.{high, low}
use Rattle.bits.specs.Bit.{bit}
use Rattle.bits.proofs.Bitwise.{bit-mod}
use Rattle.transform.specs.Transform.{covers}

-- y has the n low bits of x, and above them the bit b
pub record Above (n b x y : ℕ) : Type 0 where
  pub top : bit y n ≡ b
  pub rest : (k : ℕ) → k < n → bit y k ≡ bit x k

pub above_zero : (n x : ℕ) → x < 2 ^ n → Above n 0 x x
above_zero n x h = record { top = ap (λ (y : ℕ). y % 2) (div-eq_of_lt h); rest = λ k l. refl }

pub above_one : (n x : ℕ) → x < 2 ^ n → Above n 1 x (2 ^ n + x)
above_one n x h =
    subst (λ (m : ℕ). Above n 1 x (m + x)) (one-mul (2 ^ n))
    (record {
      top = ap (λ (y : ℕ). y % 2) (high 1 n h);
      rest = λ k l. sym (bit-mod (1 * 2 ^ n + x) k n l) ∙ ap (λ (y : ℕ). bit y k) (low 1 n h);
    })

-- only the n low bits matter
covers_ext : (n i i' j j' : ℕ) → ((k : ℕ) → k < n → bit i' k ≡ bit i k) → ((k : ℕ) → k < n → bit j' k ≡ bit j k) → covers n i' j' ≡ covers n i j
unfolding covers
covers_ext zero i i' j j' p q = refl
covers_ext (suc n) i i' j j' p q =
    ap₂ (λ (x y : ℕ). leb x y && covers n i' j') (q n (omega arith)) (p n (omega arith))
    ∙ ap (λ (t : Bool). leb (bit j n) (bit i n) && t)
    (covers_ext n i i' j j' (λ k l. p k (omega arith)) (λ k l. q k (omega arith)))

pub covers-suc : {n b c i i' j j' : ℕ} → Above n b i i' → Above n c j j' → covers (suc n) i' j' ≡ (leb c b && covers n i j)
unfolding covers
covers-suc {n} {b} {c} {i} {i'} {j} {j'} p q =
    ap₂ (λ (x y : ℕ). leb x y && covers n i' j') q.top p.top
    ∙ ap (λ (t : Bool). leb c b && t) (covers_ext n i i' j j' p.rest q.rest)
