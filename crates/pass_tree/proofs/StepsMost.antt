-- The steps of a node are at most s · 2^s, whatever its prefix.
use mathlib.Core.Path.{◌≡◌, ap, ◌∙◌}
use mathlib.Core.Bool.{Bool, true, false, cond}
use mathlib.Core.List.{List, []}
use Prim.Native.Nat.{ℕ, zero, suc, ◌+◌, ◌*◌, ◌^◌, ◌≤◌}
use native.Mathlib.Nat.{two-pow-succ, suc-mul, mul-add}
use native.Mathlib.Omega.{arith}
use lib.Dec.{leb}
use lib.IntN.{ℤ}
use lib.ListN.{length, take, drop}
use Rattle.values.specs.Values.{Rule, right_values, left_values}
use Rattle.values.proofs.Lengths.{length-right, length-left}
use Rattle.pass_tree.specs.Node.{Out, node}
use Rattle.pass_tree.specs.declared.Work.{Work}
use Rattle.pass_tree.proofs.Node.{left_of, left, right, leaf_cases, node_cases}

abbrev pub steps_of : Work → ℕ
steps_of w = w.steps

-- work is equal if its steps are
pub same_steps : {a b : Work} → a.steps ≡ b.steps → a ≡ b
same_steps e i = record { steps = e i }

-- a half's values, if they are computed
pub left-most : (forced : Bool) (h : ℕ) (v : List ℤ) → length (cond forced [] (left_values h v)) ≤ h
left-most true h v = omega arith
left-most false h v = omega (arith, length-left h v)

pub steps_most : (s : ℕ) (p : List ℕ) (rule : ℕ → Rule) (v : List ℤ) → (node s p rule v).work.steps ≤ s * 2 ^ s
steps_most zero p rule v = leaf_cases (λ o. o.work.steps ≤ 0) 0 p rule v (λ f. omega arith) (λ f. omega arith)
steps_most (suc s) p rule v =
    let h : ℕ = 2 ^ s in
    let l : Out = left s h p rule v in
    let a : l.work.steps ≤ s * h = steps_most s (take h p) rule (left_of h p v) in
    let b : (right s h p rule v).work.steps ≤ s * h = steps_most s (drop h p) (λ i. rule (h + i)) (right_values h v l.sums) in
    let two : 2 ^ suc s ≡ h + h = two-pow-succ s in
    let whole : suc s * 2 ^ suc s ≡ s * 2 ^ suc s + 2 ^ suc s = suc-mul s (2 ^ suc s) in
    let parts : s * 2 ^ suc s ≡ s * h + s * h = ap (λ (k : ℕ). s * k) two ∙ mul-add s h h in
    node_cases (λ o. o.work.steps ≤ suc s * 2 ^ suc s) s p rule v (λ f. omega arith)
    (λ f. omega (arith, left-most (leb h (length p)) h v, length-right h v l.sums))
