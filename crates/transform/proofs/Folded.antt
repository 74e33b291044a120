-- The recursive form: its lengths, and on bits it is the transform.
use mathlib.Core.Path.{◌≡◌, refl, sym, ap₂, ◌∙◌}
use mathlib.Core.List.{List, ◌++◌}
use Prim.Native.Nat.{ℕ, zero, suc, ◌^◌}
use native.Mathlib.Nat.{two-pow-succ}
use native.Mathlib.Omega.{arith}
use lib.ListN.{length, take, drop, length-append, length-take, length-drop}
use Rattle.laws.proofs.Table.{length-table, table_ext}
use Rattle.bits.specs.Claims.{Bits}
use Rattle.bits.proofs.Bitwise.{xor-bits}
use Rattle.bits.proofs.Lists.{bits-take, bits-drop}
use Rattle.transform.specs.Transform.{transformed, xors}
use Rattle.transform.specs.Clauses.{folded, xor_bytes}
use Rattle.transform.proofs.Transformed.{bits-transformed, transformed-zero, transformed-suc}

pub length-xor_bytes : (h : ℕ) (a b : List ℕ) → length (xor_bytes h a b) ≡ h
unfolding xor_bytes
length-xor_bytes h a b = length-table _ h

-- of bits, it is their exclusive-or
pub xor_bytes-bits : (h : ℕ) (a b : List ℕ) → Bits a → Bits b → xor_bytes h a b ≡ xors h a b
unfolding xor_bytes xors
xor_bytes-bits h a b p q = table_ext _ _ h (λ j l. xor-bits _ _ (p.at j) (q.at j))

pub folded-suc : (n : ℕ) (u : List ℕ) → folded (suc n) u ≡ xor_bytes (2 ^ n) (folded n (take (2 ^ n) u)) (folded n (drop (2 ^ n) u)) ++ folded n (drop (2 ^ n) u)
unfolding folded
folded-suc n u = refl

pub length-folded : (n : ℕ) (u : List ℕ) → length u ≡ 2 ^ n → length (folded n u) ≡ 2 ^ n
unfolding folded
length-folded zero u e = e
length-folded (suc n) u e =
    let h : ℕ = 2 ^ n in
    let l : List ℕ = folded n (take h u) in
    let r : List ℕ = folded n (drop h u) in
    let right = length-folded n (drop h u) (omega (arith, length-drop h u, two-pow-succ n)) in
    omega (arith, length-append (xor_bytes h l r) r, length-xor_bytes h l r, two-pow-succ n)

pub folded-bits : (n : ℕ) (u : List ℕ) → length u ≡ 2 ^ n → Bits u → folded n u ≡ transformed n u
unfolding folded
folded-bits zero u e p = sym (transformed-zero u e p)
folded-bits (suc n) u e p =
    let h : ℕ = 2 ^ n in
    let left = folded-bits n (take h u) (omega (arith, length-take h u, two-pow-succ n)) (bits-take h u p) in
    let right = folded-bits n (drop h u) (omega (arith, length-drop h u, two-pow-succ n)) (bits-drop h u p) in
    ap₂ (λ (l r : List ℕ). xor_bytes h l r ++ r) left right
    ∙ ap₂ (λ (l r : List ℕ). l ++ r) (xor_bytes-bits h _ _ (bits-transformed n (take h u)) (bits-transformed n (drop h u))) refl
    ∙ sym (transformed-suc n u)
