-- A trial that flips an index begins as the trial before it, with the opposite at that index and zeros while indices are frozen. So it may
-- be resumed after those zeros (proofs/Restart.antt), whatever it flips from then on.
use mathlib.Core.Path.{◌≡◌, sym, ap, ap₂, ◌∙◌}
use mathlib.Core.List.{List, [], ◌∷◌, ◌++◌}
use Prim.Native.Nat.{ℕ, zero, suc, ◌+◌, ◌-◌, ◌^◌, ◌<◌, ◌≤◌}
use native.Mathlib.Nat.{add-zero}
use native.Mathlib.Omega.{arith}
use lib.IntN.{ℤ, pos}
use lib.ListN.{length, get_or, take, drop, replicate, length-append, length-take, length-drop, length-replicate, get_or-replicate}
use lib.Seq.{take-add, get_or-take, get_or-drop, ext_get_or}
use Rattle.values.specs.Values.{decided, Rule, frozen, usual, opposite}
use Rattle.pass_tree.specs.Node.{Out, node}
use Rattle.pass_tree.proofs.Node.{Short, length-bits}
use Rattle.pass_tree.proofs.Decisions.{bit-decided}
use Rattle.pass_tree.proofs.Causality.{bits-before, leaf-at}

-- what a trial that flips index i begins with, up to q: the bits b of the trial before up to i, the opposite at i, then frozen zeros
abbrev pub flipped : List ℕ → ℕ → ℕ → List ℕ
flipped b i q = take i b ++ ((1 - get_or b i 0) ∷ replicate (q - (i + 1)) 0)

pub length-flipped : (b : List ℕ) (i q : ℕ) → i < q → q ≤ length b → length (flipped b i q) ≡ q
length-flipped b i q l m =
    let zs : List ℕ = replicate (q - (i + 1)) 0 in
    omega (arith, length-take i b, length-append (take i b) ((1 - get_or b i 0) ∷ zs), length-replicate {A = ℕ} (q - (i + 1)) 0)

module _ (s : ℕ) (rule rule' : ℕ → Rule) (v : List ℤ) (i q : ℕ) (l : i < q) (m : q ≤ 2 ^ s) (before : (j : ℕ) → j < i → rule j ≡ rule' j)
    (plain : rule i ≡ usual) (flip : rule' i ≡ opposite) (zeros : (j : ℕ) → i < j → j < q → rule' j ≡ frozen) where
  abbrev first : Out
  first = node s [] rule v

  abbrev trial : Out
  trial = node s [] rule' v

  none : Short s []
  none = omega arith

  -- each bit of the trial by its rule
  trial-bit : (j : ℕ) → j < 2 ^ s → (r : Rule) → rule' j ≡ r → get_or trial.bits j 0 ≡ decided r (get_or trial.leaves j (pos 0))
  trial-bit j c r e = bit-decided s [] rule' v none j j (omega arith) c ∙ ap (λ (x : Rule). decided x (get_or trial.leaves j (pos 0))) e

  opposite_bit : 1 - get_or first.bits i 0 ≡ get_or trial.bits i 0
  opposite_bit =
      ap (λ (x : ℕ). 1 - x)
      (bit-decided s [] rule v none i i (omega arith) (omega arith)
      ∙ ap₂ decided plain (leaf-at s [] rule rule' v none i (λ j _ c. before j c) i (omega arith) (omega arith)))
      ∙ sym (trial-bit i (omega arith) opposite flip)

  from_flip : (k : ℕ) → i + k < q → get_or ((1 - get_or first.bits i 0) ∷ replicate (q - (i + 1)) 0) k 0 ≡ get_or trial.bits (i + k) 0
  from_flip zero c = rw add-zero opposite_bit
  from_flip (suc k) c =
      get_or-replicate (q - (i + 1)) k 0 0 (omega arith) ∙ sym (trial-bit (i + suc k) (omega arith) frozen (zeros (i + suc k) (omega arith) c))

  pub begins-flipped : flipped first.bits i q ≡ take q trial.bits
  begins-flipped =
      let n : ℕ = q - i in
      let back : List ℕ = drop i trial.bits in
      let zs : List ℕ = replicate (q - (i + 1)) 0 in
      let whole : i + n ≡ q = omega arith in
      ap₂ (λ (a b : List ℕ). a ++ b) (bits-before s [] rule rule' v none i (λ j _ c. before j c) (omega arith))
      (ext_get_or 0 ((1 - get_or first.bits i 0) ∷ zs) (take n back)
      (omega (arith, length-replicate {A = ℕ} (q - (i + 1)) 0, length-take n back, length-drop i trial.bits, length-bits s [] rule' v none))
      (λ k c.
      let d : i + k < q = omega (arith, length-replicate {A = ℕ} (q - (i + 1)) 0) in
      from_flip k d ∙ sym (get_or-take n back k 0 (omega arith) ∙ get_or-drop i trial.bits k 0)))
      ∙ sym (take-add i n trial.bits) ∙ ap (λ (k : ℕ). take k trial.bits) whole
