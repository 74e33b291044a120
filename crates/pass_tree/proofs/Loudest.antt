-- A whole pass on values that are all one number, none of whose decisions is opposite: every bit is 0, and the values of each right half are twice
-- those above it.
use mathlib.Core.Path.{◌≡◌, sym, ap, ap₂, ◌∙◌, subst}
use mathlib.Core.List.{List, [], ◌∷◌, ◌++◌}
use Prim.Native.Nat.{ℕ, zero, suc, ◌+◌, ◌-◌, ◌*◌, ◌%◌, ◌^◌, ◌<◌}
use native.Mathlib.Nat.{two-pow-succ, add-mul, mul-add}
use native.Mathlib.Omega.{arith}
use lib.IntN.{ℤ, pos}
use lib.ListN.{length, get_or, get_or-append}
use lib.Pow.{pow_pos}
use lib.Seq.{get_or-append-add}
use Rattle.laws.proofs.Table.{get_or-table}
use Rattle.laws.proofs.Indices.{by-halves}
use Rattle.transform.specs.Transform.{xors}
use Rattle.transform.proofs.Xors.{length-xors, get_or-xors}
use Rattle.values.specs.Values.{decided, Rule, left_values, right_values, f, g}
use Rattle.pass_tree.specs.Node.{Out, leaf, join, node}
use Rattle.pass_tree.proofs.Node.{node-leaf, length-leaves}
use Rattle.pass_tree.proofs.Noiseless.{plain_halves}

-- n values, all x
abbrev All : ℕ → ℕ → List ℤ → Type 0
All n x v = (j : ℕ) → j < n → get_or v j (pos 0) ≡ pos x

-- values that are not negative decide 0
abbrev pub Calm : (ℕ → Rule) → Type 0
Calm rule = (i x : ℕ) → decided (rule i) (pos x) ≡ 0

-- a pass whose sums are 0 and whose last leaf has the value y
record Loud (s y : ℕ) (o : Out) : Type 0 where
  sums : (j : ℕ) → j < 2 ^ s → get_or o.sums j 0 ≡ 0
  last : get_or o.leaves (2 ^ s - 1) (pos 0) ≡ pos y

-- f keeps the value
f-same : (x : ℕ) → f (pos x) (pos x) ≡ pos x
unfolding f
f-same x = ap pos (omega arith)

module _ (h x : ℕ) (v : List ℤ) (all : All (h + h) x v) where
  left-all : All h x (left_values h v)
  unfolding left_values
  left-all j l = get_or-table _ h j (pos 0) l ∙ ap₂ f (all j (omega arith)) (all (h + j) (omega arith)) ∙ f-same x

  -- g adds it to itself
  right-all : (sums : List ℕ) → ((j : ℕ) → j < h → get_or sums j 0 ≡ 0) → All h (x + x) (right_values h v sums)
  unfolding right_values g
  right-all sums none j l = get_or-table _ h j (pos 0) l ∙ rw (all j (omega arith), all (h + j) (omega arith), none j l)

loud-leaf : (x : ℕ) (rule : Rule) (z : ℤ) → decided rule (pos x) ≡ 0 → z ≡ pos x → Loud 0 x (leaf rule z)
loud-leaf x rule z calm e = record { sums = only; last = e }
  where
    only : (j : ℕ) → j < 1 → get_or (decided rule z ∷ []) j 0 ≡ 0
    only zero l = ap (decided rule) e ∙ calm
    only (suc j) l = absurd (omega arith)

-- two halves
loud-join : (s z y : ℕ) (v₁ v₂ : List ℤ) (l r : Out) → Loud s z l → Loud s y r → length l.leaves ≡ 2 ^ s → Loud (suc s) y (join (2 ^ s) v₁ l v₂ r)
loud-join s z y v₁ v₂ l r a b size =
    record {
      sums = by-halves (λ (j : ℕ). get_or (first ++ r.sums) j 0 ≡ 0) s
          (λ j m. get_or-append first r.sums 0 j (omega (arith, first-size)) ∙ get_or-xors h l.sums r.sums j m ∙ ap₂ (λ (x y : ℕ). (x + y) % 2) (a.sums j m) (b.sums j m))
          (λ j m. ap (λ (k : ℕ). get_or (first ++ r.sums) (k + j) 0) (sym first-size) ∙ get_or-append-add first r.sums j 0 ∙ b.sums j m);
      last = ap (λ (k : ℕ). get_or (l.leaves ++ r.leaves) k (pos 0)) end ∙ get_or-append-add l.leaves r.leaves (h - 1) (pos 0) ∙ b.last;
    }
  where
    h : ℕ
    h = 2 ^ s

    first : List ℕ
    first = xors h l.sums r.sums

    first-size : length first ≡ h
    first-size = length-xors h l.sums r.sums

    end : 2 ^ suc s - 1 ≡ length l.leaves + (h - 1)
    end = omega (arith, size, two-pow-succ s, pow_pos s)

loud : (s x : ℕ) (rule : ℕ → Rule) (v : List ℤ) → Calm rule → All (2 ^ s) x v → Loud s (x * 2 ^ s) (node s [] rule v)
loud zero x rule v calm all =
    let one : x ≡ x * 2 ^ 0 = omega arith in
    subst (λ (y : ℕ). Loud 0 y (node 0 [] rule v)) one
    (subst (Loud 0 x) (sym (node-leaf [] rule v (omega arith))) (loud-leaf x (rule 0) (get_or v 0 (pos 0)) (calm 0 x) (all 0 (omega arith))))
loud (suc s) x rule v calm all =
    let h : ℕ = 2 ^ s in
    let both : All (h + h) x v = λ j m. all j (omega (arith, two-pow-succ s)) in
    let v₁ : List ℤ = left_values h v in
    let l : Out = node s [] rule v₁ in
    let a : Loud s (x * h) l = loud s x rule v₁ calm (left-all h x v both) in
    let v₂ : List ℤ = right_values h v l.sums in
    let r : Out = node s [] (λ i. rule (h + i)) v₂ in
    let b : Loud s ((x + x) * h) r = loud s (x + x) (λ i. rule (h + i)) v₂ (λ i. calm (h + i)) (right-all h x v both l.sums a.sums) in
    let twice : (x + x) * h ≡ x * 2 ^ suc s = add-mul x x h ∙ sym (mul-add x h h) ∙ ap (λ (k : ℕ). x * k) (sym (two-pow-succ s)) in
    subst (λ (y : ℕ). Loud (suc s) y (node (suc s) [] rule v)) twice
    (subst (Loud (suc s) ((x + x) * h)) (sym (plain_halves s rule v)) (loud-join s (x * h) ((x + x) * h) v₁ v₂ l r a b (omega (arith, length-leaves s [] rule v₁ (omega arith)))))

-- the last leaf of a whole pass on 2^s values, all x
pub last-loudest : (s x : ℕ) (rule : ℕ → Rule) (v : List ℤ) → Calm rule → ((j : ℕ) → j < 2 ^ s → get_or v j (pos 0) ≡ pos x) → get_or (node s [] rule v).leaves (2 ^ s - 1) (pos 0) ≡ pos (x * 2 ^ s)
last-loudest s x rule v calm all = (loud s x rule v calm all).last
