-- How a later trial begins: its two forms, its length, and its bits.
use mathlib.Core.Path.{◌≡◌, ap₂, ◌∙◌}
use mathlib.Core.List.{List, ◌∷◌, ◌++◌}
use Prim.Native.Nat.{ℕ, zero, suc, ◌+◌, ◌-◌, ◌<◌, ◌≤◌}
use native.Mathlib.Omega.{arith}
use lib.ListN.{length, get_or, take, replicate, length-append, length-take, length-replicate}
use lib.Seq.{take_all, take-take, take-append-le, get_or-take}
use Rattle.bits.specs.Claims.{Bits}
use Rattle.bits.proofs.Lists.{bits-nil, bits-cons, bits-append, bits-take}
use Rattle.pass_tree.proofs.RestartFlip.{flipped, length-flipped}
use Rattle.flip_trial.specs.Trial.{forced_prefix}

module _ (b : List ℕ) (i q : ℕ) where
  -- up to the flipped index, with the bits themselves
  pub forced-before : q ≤ i → q ≤ length b → forced_prefix b i q ≡ take q b
  forced-before l m =
      take-append-le q (take i b) ((1 - get_or b i 0) ∷ replicate (q - (i + 1)) 0) (omega (arith, length-take i b)) ∙ take-take q i b l

  -- past it, with the opposite there and zeros
  pub forced-past : i < q → q ≤ length b → forced_prefix b i q ≡ flipped b i q
  forced-past l m = take_all q (flipped b i q) (omega (arith, length-flipped b i q l m))

  -- as long as it says
  pub length-forced : q ≤ length b → length (forced_prefix b i q) ≡ q
  length-forced m =
      let zs : List ℕ = replicate (q - (i + 1)) 0 in
      omega (arith, length-take q (flipped b i q), length-append (take i b) ((1 - get_or b i 0) ∷ zs), length-take i b, length-replicate {A = ℕ} (q - (i + 1)) 0)

  -- if all are bits, they are bits
  pub bits-forced : Bits b → Bits (forced_prefix b i q)
  bits-forced p = bits-take q (flipped b i q) (bits-append (take i b) _ (bits-take i b p) (bits-cons (omega arith) (bits-zeros (q - (i + 1)))))
    where
      bits-zeros : (m : ℕ) → Bits (replicate m 0)
      bits-zeros zero = bits-nil
      bits-zeros (suc m) = bits-cons (omega arith) (bits-zeros m)

  -- by the first bits alone
  pub forced-take : (m : ℕ) → i < m → forced_prefix (take m b) i q ≡ forced_prefix b i q
  forced-take m l =
      ap₂ (λ (xs : List ℕ) (x : ℕ). take q (xs ++ ((1 - x) ∷ replicate (q - (i + 1)) 0))) (take-take i m b (omega arith)) (get_or-take m b i 0 l)
