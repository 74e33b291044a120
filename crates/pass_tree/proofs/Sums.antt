-- The sums of a node are the transform of its bits, and both are bits.
use mathlib.Core.Path.{◌≡◌, refl, sym, ap, ap₂, ◌∙◌}
use mathlib.Core.List.{List, [], ◌∷◌, ◌++◌}
use Prim.Native.Nat.{ℕ, zero, suc, ◌+◌, ◌^◌, ◌<◌}
use native.Mathlib.Omega.{arith}
use lib.IntN.{ℤ, pos}
use lib.ListN.{get_or, take, drop}
use lib.Seq.{take_at, drop_at}
use Rattle.bits.specs.Claims.{Bits}
use Rattle.bits.proofs.Lists.{bits-nil, bits-cons, bits-append, bits-take, bits-drop}
use Rattle.transform.specs.Transform.{transformed, xors}
use Rattle.transform.proofs.Transformed.{bits-transformed, transformed-zero, transformed-suc}
use Rattle.transform.proofs.Xors.{bits-xors}
use Rattle.values.specs.Values.{decided, Rule, frozen, usual, opposite, right_values}
use Rattle.values.proofs.Signs.{hard_lt}
use Rattle.pass_tree.specs.Node.{Out, node}
use Rattle.pass_tree.proofs.Node.{left_of, left, right, leaf_cases, node_cases, Short, short-left, short-right, length-bits}

decided_lt : (rule : Rule) (v : ℤ) → decided rule v < 2
decided_lt frozen v = omega arith
decided_lt usual v = hard_lt v
decided_lt opposite v = omega arith

-- a decided bit alone
bits-decided : (rule : Rule) (v : ℤ) → Bits (decided rule v ∷ [])
bits-decided rule v = bits-cons (decided_lt rule v) bits-nil

pub bits-bits : (s : ℕ) (p : List ℕ) (rule : ℕ → Rule) (v : List ℤ) → Bits p → Bits (node s p rule v).bits
bits-bits zero p rule v b = leaf_cases (λ o. Bits o.bits) 0 p rule v (λ f. b) (λ f. bits-decided (rule 0) (get_or v 0 (pos 0)))
bits-bits (suc s) p rule v b =
    let h : ℕ = 2 ^ s in
    node_cases (λ o. Bits o.bits) s p rule v (λ f. b)
    (λ f. bits-append (left s h p rule v).bits (right s h p rule v).bits (bits-bits s (take h p) rule _ (bits-take h p b)) (bits-bits s (drop h p) _ _ (bits-drop h p b)))

pub bits-sums : (s : ℕ) (p : List ℕ) (rule : ℕ → Rule) (v : List ℤ) → Bits (node s p rule v).sums
bits-sums zero p rule v = leaf_cases (λ o. Bits o.sums) 0 p rule v (λ f. bits-transformed 0 p) (λ f. bits-decided (rule 0) (get_or v 0 (pos 0)))
bits-sums (suc s) p rule v =
    let h : ℕ = 2 ^ s in
    let l : List ℕ = (left s h p rule v).sums in
    let r : List ℕ = (right s h p rule v).sums in
    node_cases (λ o. Bits o.sums) s p rule v (λ f. bits-transformed (suc s) p)
    (λ f. bits-append (xors h l r) r (bits-xors h l r) (bits-sums s (drop h p) _ _))

pub sums-transformed : (s : ℕ) (p : List ℕ) (rule : ℕ → Rule) (v : List ℤ) → Short s p → (node s p rule v).sums ≡ transformed s (node s p rule v).bits
sums-transformed zero p rule v l =
    leaf_cases (λ o. o.sums ≡ transformed 0 o.bits) 0 p rule v (λ f. refl) (λ f. sym (transformed-zero _ refl (bits-decided (rule 0) (get_or v 0 (pos 0)))))
sums-transformed (suc s) p rule v l =
    let h : ℕ = 2 ^ s in
    let lo : Out = left s h p rule v in
    let ro : Out = right s h p rule v in
    let long = length-bits s (take h p) rule (left_of h p v) (short-left s p) in
    node_cases (λ o. o.sums ≡ transformed (suc s) o.bits) s p rule v (λ f. refl)
    (λ f. ap₂ (λ (a b : List ℕ). xors h a b ++ b)
    (sums-transformed s (take h p) rule (left_of h p v) (short-left s p) ∙ ap (transformed s) (sym (take_at lo.bits ro.bits h long)))
    (sums-transformed s (drop h p) (λ i. rule (h + i)) (right_values h v lo.sums) (short-right s p l) ∙ ap (transformed s) (sym (drop_at lo.bits ro.bits h long)))
    ∙ sym (transformed-suc s (lo.bits ++ ro.bits)))
