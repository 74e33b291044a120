-- Lists made of lists of bits are lists of bits.
use mathlib.Core.List.{List, [], ◌∷◌, ◌++◌}
use Prim.Native.Nat.{ℕ, zero, suc, ◌<◌}
use native.Mathlib.Omega.{arith}
use lib.ListN.{get_or, take, drop}
use Rattle.laws.specs.Table.{table}
use Rattle.laws.proofs.Each.{each_append, each_take, each-drop, each-table}
use Rattle.bits.specs.Bit.{bits_of}
use Rattle.bits.specs.Claims.{Bits}
use Rattle.bits.specs.Packing.{unpacked}
use Rattle.bits.proofs.Bitwise.{bit_lt}

pub bits-nil : Bits []
bits-nil = record { at = λ i. omega arith }

pub bits-cons : {x : ℕ} {xs : List ℕ} → x < 2 → Bits xs → Bits (x ∷ xs)
bits-cons {x} {xs} h p = record { at = each }
  where
    each : (i : ℕ) → get_or (x ∷ xs) i 0 < 2
    each zero = h
    each (suc i) = p.at i

pub bits_tail : {x : ℕ} {xs : List ℕ} → Bits (x ∷ xs) → Bits xs
bits_tail p = record { at = λ i. p.at (suc i) }

pub bits-append : (xs ys : List ℕ) → Bits xs → Bits ys → Bits (xs ++ ys)
bits-append xs ys p q = record { at = each_append (λ b. b < 2) 0 xs ys p.at q.at }

pub bits-take : (n : ℕ) (xs : List ℕ) → Bits xs → Bits (take n xs)
bits-take n xs p = record { at = each_take (λ b. b < 2) 0 (omega arith) n xs p.at }

pub bits-drop : (n : ℕ) (xs : List ℕ) → Bits xs → Bits (drop n xs)
bits-drop n xs p = record { at = each-drop (λ b. b < 2) 0 n xs p.at }

pub bits-table : (f : ℕ → ℕ) (n : ℕ) → ((i : ℕ) → f i < 2) → Bits (table f n)
bits-table f n h = record { at = each-table (λ b. b < 2) 0 (omega arith) f n h }

pub bits_of_lem : (w x : ℕ) → Bits (bits_of w x)
bits_of_lem zero x = bits-nil
bits_of_lem (suc w) x = bits-cons (bit_lt x w) (bits_of_lem w x)

pub bits-unpacked : (bytes : List ℕ) (k : ℕ) → Bits (unpacked bytes k)
unfolding unpacked
bits-unpacked bytes k = bits-table _ k (λ i. bit_lt _ _)
