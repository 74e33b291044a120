-- What n looks count, and what a walk of n looks is to the next one.
use mathlib.Core.Path.{◌≡◌, refl, sym, ap, ap₂, ◌∙◌}
use mathlib.Core.List.{List, [], ◌∷◌}
use Prim.Native.Nat.{ℕ, zero, suc, ◌+◌, ◌*◌, ◌^◌, ◌≤◌, ◌<◌}
use native.Mathlib.Numerals.{add-one}
use native.Mathlib.Omega.{arith}
use lib.ListN.{length}
use Rattle.bits.specs.Mask.{mask_bit, ones_below}
use Rattle.bits.proofs.Mask.{ones_le}
use Rattle.walk.specs.declared.Walk.{Walk}
use Rattle.walk.specs.Walked.{looked, walked, WalkCounts}

pub walked_looks : (mask : List ℕ) (n : ℕ) → (walked mask n).looks ≡ n
unfolding walked
walked_looks mask zero = refl
walked_looks mask (suc n) = add-one (walked mask n).looks ∙ ap suc (walked_looks mask n)

pub walked_ones : (mask : List ℕ) (n : ℕ) → (walked mask n).ones ≡ ones_below mask n
unfolding walked ones_below
walked_ones mask zero = refl
walked_ones mask (suc n) = ap₂ (λ (x i : ℕ). x + mask_bit mask i) (walked_ones mask n) (walked_looks mask n)

pub walk_counts : WalkCounts
walk_counts mask n = (walked_looks mask n, walked_ones mask n)

-- at the mask of document 01's D: eight looks, four ones
pub walk_along_D : ((walked (0xE8 ∷ []) 8).looks ≡ 8) × ((walked (0xE8 ∷ []) 8).ones ≡ 4)
unfolding ones_below
walk_along_D = walk_counts (0xE8 ∷ []) 8

-- a walk of n looks
module _ (mask : List ℕ) (n : ℕ) {w : Walk} (e : w ≡ walked mask n) where
  pub looks_are : w.looks ≡ n
  looks_are = ap (λ (w : Walk). w.looks) e ∙ walked_looks mask n

  pub ones_are : w.ones ≡ ones_below mask n
  ones_are = ap (λ (w : Walk). w.ones) e ∙ walked_ones mask n

  -- the next look sees the bit at n
  pub next_bit : mask_bit mask w.looks ≡ mask_bit mask n
  next_bit = ap (mask_bit mask) looks_are

  -- it makes a walk of n + 1 looks
  pub next_walk : {l : Walk} → l ≡ looked mask w → l ≡ walked mask (n + 1)
  unfolding walked
  next_walk p = p ∙ ap (looked mask) e ∙ ap (walked mask) (sym (add-one n))

  -- it may be made if the mask has an index n
  pub may_look : 8 * length mask < 2 ^ 64 → n < 8 * length mask
      → (8 * length mask < 2 ^ 64) × (w.looks < 8 * length mask) × (w.ones ≤ w.looks)
  may_look few l = (few, omega (arith, looks_are, l), omega (arith, looks_are, ones_are, ones_le mask n))
