-- `pass_ends::decode_two` meets its contract: two leaves, by the halves of proofs/Free.antt.
use mathlib.Core.Path.{◌≡◌, sym, ap, ap₂, ◌∙◌}
use mathlib.Core.List.{List, [], ◌∷◌}
use Prim.Native.Nat.{ℕ}
use native.Mathlib.Nat.{add-zero}
use native.Mathlib.Omega.{arith}
use borrow.Author.Rules.{rules}
use lib.IntN.{ℤ, nat_abs}
use lib.ListN.{get_or}
use mir.Syntax.{w32}
use Rattle.laws.specs.Table.{table}
use Rattle.laws.specs.Clauses.{segment}
use Rattle.laws.proofs.Segment.{get_or-segment}
use Rattle.laws.proofs.Signed.{back, back_is}
use Rattle.values.specs.Values.{right_values, left_values, g, f}
use Rattle.pass_ends.proofs.Free.{free_sized, free_combine, free_laid}
use Rattle.pass_ends.proofs.decode_two.Statement.{statement}
use Rattle.pass_ends.proofs.decode_two.Tie as tie

-- the two values, as the machine reads them
module _ (s : tie.Start) where
  abbrev v : List ℤ
  v = s.args.a ∷ s.args.b ∷ []

  first : back w32 s.args.a ≡ s.args.a
  first = back_is w32 s.args.a s.ranges.a

  second : back w32 s.args.b ≡ s.args.b
  second = back_is w32 s.args.b s.ranges.b

f-requires : tie.Need-f-requires
f-requires c κs = (omega (arith, ap nat_abs (first c), c.requires.2), omega (arith, ap nat_abs (second c), c.requires.2))

g-requires : tie.Need-g-requires
g-requires c κs = let s = c.before.before.before.before.before in omega (arith, ap nat_abs (first s), ap nat_abs (second s), s.requires.2)

-- after the left leaf
module _ (k : tie.After-leaf-first) where
  abbrev m : tie.After-f
  m = k.before.before.before.before

  abbrev s : tie.Start
  s = m.before

  abbrev sums : List ℕ
  sums = k.leaf-first.new.sums

  left-own : back w32 m.f.result ∷ [] ≡ left_values 1 (v s)
  unfolding left_values table
  left-own =
      ap (λ (x : ℤ). x ∷ []) (back_is w32 m.f.result (record { sfits = m.f.type_inv }) ∙ m.f.ensures ∙ ap₂ f (first s) (second s))

leaf-requires-2 : tie.Need-leaf-requires
leaf-requires-2 c κs =
    let k = c.before.before.before.before in
    let p = (s k).requires in
    (free_sized 0 _ (s k).args.rules.now (v (s k)) p.0 p.1 (left-own k) k.leaf-first.ensures.1, omega (arith, p.1))

-- after the right leaf
module _ (r : tie.After-leaf) where
  abbrev n : tie.After-g
  n = r.before.before.before.before

  abbrev k : tie.After-leaf-first
  k = n.before

  right-own : back w32 n.g.result ∷ [] ≡ right_values 1 (v (s k)) (segment (sums k) (s k).args.base 1)
  unfolding right_values table
  right-own =
      let base = (s k).args.base in
      let sum = k.leaf-first.ensures.0 ∙ ap (λ (i : ℕ). get_or (sums k) i 0) (sym (add-zero base)) ∙ sym (get_or-segment (sums k) base 1 0 0 (omega arith)) in
      ap (λ (x : ℤ). x ∷ [])
      (back_is w32 n.g.result (record { sfits = n.g.type_inv }) ∙ n.g.ensures ∙ (λ t. g (first (s k) t) (second (s k) t) (sum t)))

combine-requires : tie.Need-combine-requires
combine-requires c κs =
    let r = c.before in
    let p = (s (k r)).requires in
    free_combine 0 _ (s (k r)).args.rules.now (v (s (k r))) p.0 p.1 (left-own (k r)) (k r).leaf-first.ensures.1 (right-own r) r.leaf.ensures.1

returns : tie.Need-returns
returns c =
    let p = (s (k c.before.before.before)).requires in
    free_laid 0 _ (s (k c.before.before.before)).args.rules.now (v (s (k c.before.before.before))) p.0 p.1 (left-own (k c.before.before.before)) (k c.before.before.before).leaf-first.ensures.1 (right-own c.before.before.before) c.leaf.ensures.1 c.of.ensures c.combine.ensures

pub decode_two_spec : {M : Type 1} → statement M
decode_two_spec =
    tie.close
    (tie.spec
    f-requires
    (λ c κs. let p = c.before.before.before.before.requires in (p.0, omega (arith, p.1)))
    (λ c. search rules)
    (λ c. search rules)
    g-requires
    leaf-requires-2
    (λ c. search rules)
    combine-requires
    (λ c κs. search rules)
    returns)
