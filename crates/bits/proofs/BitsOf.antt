-- The bits of a number as a list, the highest first.
use mathlib.Core.Path.{◌≡◌, refl, sym, ap, ap₂, ◌∙◌}
use mathlib.Core.List.{List, ◌∷◌}
use Prim.Native.Nat.{ℕ, zero, suc, ◌+◌, ◌-◌, ◌%◌, ◌^◌, ◌≤◌, ◌<◌}
use native.Mathlib.Omega.{arith}
use lib.ListN.{length, get_or, replicate}
use Rattle.laws.specs.Table.{table}
use Rattle.laws.proofs.Table.{get_or-table, table_ext, table_from}
use Rattle.bits.specs.Bit.{bit, bits_of}
use Rattle.bits.proofs.Bitwise.{bit-mod, bit-zero}
use Rattle.bits.proofs.Number.{number_ext, number_bit}

pub length-bits_of : (w x : ℕ) → length (bits_of w x) ≡ w
length-bits_of zero x = refl
length-bits_of (suc w) x = ap suc (length-bits_of w x)

pub bits_of-zero : (w : ℕ) → bits_of w 0 ≡ replicate w 0
bits_of-zero zero = refl
bits_of-zero (suc w) = ap₂ (λ (x : ℕ) (l : List ℕ). x ∷ l) (bit-zero w) (bits_of-zero w)

-- the bits above the w low ones do not matter
pub bits_of-mod : (w k x : ℕ) → w ≤ k → bits_of w (x % 2 ^ k) ≡ bits_of w x
bits_of-mod zero k x h = refl
bits_of-mod (suc w) k x h = ap₂ (λ (y : ℕ) (l : List ℕ). y ∷ l) (bit-mod x w k h) (bits_of-mod w k x (omega arith))

-- the list by its elements
pub bits_of-table : (w x : ℕ) → table (λ j. bit x (w - (j + 1))) w ≡ bits_of w x
unfolding table
bits_of-table zero x = refl
bits_of-table (suc w) x =
    ap₂ (λ (y : ℕ) (l : List ℕ). y ∷ l) (first w x) (table_ext _ (λ j. bit x (w - (j + 1))) w (rest w x) ∙ bits_of-table w x)
  where
    first : (w x : ℕ) → bit x (suc w - (0 + 1)) ≡ bit x w
    first w x = let e : suc w - (0 + 1) ≡ w = omega arith in ap (bit x) e

    rest : (w x j : ℕ) → j < w → bit x (suc w - (suc j + 1)) ≡ bit x (w - (j + 1))
    rest w x j l = let e : suc w - (suc j + 1) ≡ w - (j + 1) = omega arith in ap (bit x) e

pub bits_of-from : (w x : ℕ) (xs : List ℕ) → length xs ≡ w → ((j : ℕ) → j < w → get_or xs j 0 ≡ bit x (w - (j + 1))) → xs ≡ bits_of w x
bits_of-from w x xs len h = table_from _ w 0 xs len h ∙ bits_of-table w x

pub get_or-bits_of : (w x j : ℕ) → j < w → get_or (bits_of w x) j 0 ≡ bit x (w - (j + 1))
get_or-bits_of w x j h = ap (λ (l : List ℕ). get_or l j 0) (sym (bits_of-table w x)) ∙ get_or-table (λ i. bit x (w - (i + 1))) w j 0 h

-- a number below 2^w is known by its w bits
pub bits_of-only : (w x y : ℕ) → x < 2 ^ w → y < 2 ^ w → bits_of w x ≡ bits_of w y → x ≡ y
bits_of-only w x y l k e = sym (number_bit w x l) ∙ number_ext _ _ w each ∙ number_bit w y k
  where
    each : (j : ℕ) → j < w → bit x (w - (j + 1)) ≡ bit y (w - (j + 1))
    each j h = sym (get_or-bits_of w x j h) ∙ ap (λ (l : List ℕ). get_or l j 0) e ∙ get_or-bits_of w y j h
