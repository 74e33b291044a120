-- A pass that is resumed from a prefix with which another pass begins has the results of that pass, whatever the rules below the prefix.
use mathlib.Core.Path.{◌≡◌, refl, sym, ap, ◌∙◌}
use mathlib.Core.List.{List, []}
use Prim.Native.Nat.{ℕ, ◌+◌, ◌^◌, ◌<◌, ◌≤◌}
use native.Mathlib.Nat.{add-zero}
use native.Mathlib.Omega.{arith}
use lib.IntN.{ℤ, pos}
use lib.ListN.{length, get_or, take, drop, length-drop}
use lib.Seq.{take_all, take-length, get_or-take, get_or-drop, ext_get_or}
use Rattle.laws.proofs.Indices.{lt_cases, take-agree}
use Rattle.transform.specs.Transform.{transformed}
use Rattle.values.specs.Values.{Rule}
use Rattle.pass_tree.specs.Node.{Out, node}
use Rattle.pass_tree.proofs.Node.{Short, length-bits, length-leaves}
use Rattle.pass_tree.proofs.Sums.{sums-transformed}
use Rattle.pass_tree.proofs.StepsMost.{same_steps}
use Rattle.pass_tree.proofs.Steps.{steps_length}
use Rattle.pass_tree.proofs.Decisions.{decision}
use Rattle.pass_tree.proofs.Causality.{same-leaf, same_bit}

-- p' is how the pass with the prefix p begins, and the rules agree from the end of p' on
module _ (s : ℕ) (p p' : List ℕ) (rule rule' : ℕ → Rule) (v : List ℤ) (short : Short s p) (short' : Short s p') (longer : length p ≤ length p')
    (begins : p' ≡ take (length p') (node s p rule v).bits) (agree : (j : ℕ) → length p' ≤ j → j < 2 ^ s → rule j ≡ rule' j) where
  abbrev o : Out
  o = node s p rule v

  abbrev o' : Out
  o' = node s p' rule' v

  pub restart-bits : (node s p' rule' v).bits ≡ (node s p rule v).bits
  restart-bits =
      let n = length-bits s p rule v short in
      let n' = length-bits s p' rule' v short' in
      sym (take_all (2 ^ s) o'.bits (omega arith))
      ∙ take-agree o'.bits o.bits 0 (2 ^ s) (omega arith) (omega arith)
      (λ j l e. lt_cases j (length p')
      (λ c. (decision s p' rule' v short' j l).given c ∙ ap (λ (x : List ℕ). get_or x j 0) begins ∙ get_or-take (length p') o.bits j 0 c)
      (λ c. sym (same_bit s p p' rule rule' v short short' j l (sym e) (omega arith) c (agree j c l))))
      ∙ take_all (2 ^ s) o.bits (omega arith)

  restart-sums : (node s p' rule' v).sums ≡ (node s p rule v).sums
  restart-sums = sums-transformed s p' rule' v short' ∙ ap (transformed s) restart-bits ∙ sym (sums-transformed s p rule v short)

  pub restart-leaves : (m : ℕ) → length p + m ≡ length p' → (node s p' rule' v).leaves ≡ drop m (node s p rule v).leaves
  restart-leaves m e =
      let n = length-leaves s p rule v short in
      let n' = length-leaves s p' rule' v short' in
      ext_get_or (pos 0) o'.leaves (drop m o.leaves) (omega (arith, length-drop m o.leaves))
      (λ k l.
      sym (same-leaf s p p' rule rule' v short short' (length p' + k) (omega arith) (ap (take (length p' + k)) (sym restart-bits)) (m + k) k (omega arith) refl)
      ∙ sym (get_or-drop m o.leaves k (pos 0)))

-- a whole pass, resumed at the end of p, which is its own beginning
pub restart : (s : ℕ) (p : List ℕ) (rule : ℕ → Rule) (v : List ℤ) → Short s p → p ≡ take (length p) (node s [] rule v).bits → ((node s p rule v).bits ≡ (node s [] rule v).bits) × ((node s p rule v).sums ≡ (node s [] rule v).sums) × ((node s p rule v).leaves ≡ drop (length p) (node s [] rule v).leaves)
restart s p rule v short begins =
    let none : Short s [] = omega arith in
    let c : length {A = ℕ} [] ≤ length p = omega arith in (
      restart-bits s [] p rule rule v none short c begins (λ _ _ _. refl),
      restart-sums s [] p rule rule v none short c begins (λ _ _ _. refl),
      restart-leaves s [] p rule rule v none short c begins (λ _ _ _. refl) (length p) (omega arith),
    )

-- a pass begins with its prefix
pub begins-forced : (s : ℕ) (p : List ℕ) (rule : ℕ → Rule) (v : List ℤ) → Short s p → p ≡ take (length p) (node s p rule v).bits
begins-forced s p rule v short =
    sym (take-length p)
    ∙ take-agree p (node s p rule v).bits 0 (length p) (omega arith) (omega (arith, length-bits s p rule v short))
    (λ j l _. sym ((decision s p rule v short j (omega arith)).given l))

-- rules below the prefix do not matter
pub rules_below : (s : ℕ) (p : List ℕ) (rule rule' : ℕ → Rule) (v : List ℤ) → Short s p → ((j : ℕ) → length p ≤ j → j < 2 ^ s → rule j ≡ rule' j) → node s p rule v ≡ node s p rule' v
rules_below s p rule rule' v short agree =
    let c : length p ≤ length p = omega arith in
    let e = begins-forced s p rule' v short in
    let back : (j : ℕ) → length p ≤ j → j < 2 ^ s → rule' j ≡ rule j = λ j m l. sym (agree j m l) in
    λ i. record {
      bits = restart-bits s p p rule' rule v short short c e back i;
      sums = restart-sums s p p rule' rule v short short c e back i;
      leaves = restart-leaves s p p rule' rule v short short c e back 0 (add-zero (length p)) i;
      work = same_steps (steps_length s p p rule rule' v v refl short) i;
    }
