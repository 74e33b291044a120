-- `pass_ends::decode_four` meets its contract: two nodes of layer 1, by the halves of proofs/Free.antt.
use mathlib.Core.Path.{◌≡◌, sym, ap, ap₂, ◌∙◌, subst}
use mathlib.Core.List.{List, [], ◌∷◌}
use Prim.Native.Nat.{ℕ, ◌+◌, ◌^◌, ◌<◌, ◌≤◌}
use native.Mathlib.Nat.{add-zero}
use native.Mathlib.Omega.{arith}
use borrow.Author.Rules.{rules}
use lib.IntN.{ℤ, pos, nat_abs}
use lib.ListN.{get_or}
use mir.Syntax.{w32}
use Rattle.laws.specs.Table.{table}
use Rattle.laws.specs.Clauses.{segment}
use Rattle.laws.proofs.Segment.{get_or-segment}
use Rattle.laws.proofs.Signed.{back, back_is}
use Rattle.arrays.specs.Sizes.{largest_n}
use Rattle.values.specs.Values.{right_values, left_values, g, f}
use Rattle.values.specs.Claims.{Within}
use Rattle.values.proofs.Bounds.{within-right, within-left, back-within}
use Rattle.pass_tree.specs.declared.Work.{Work}
use Rattle.pass_tree.specs.Node.{plus_work}
use Rattle.pass_tree.specs.Claims.{most}
use Rattle.pass_tree.specs.Clauses.{counted}
use Rattle.pass_tree.proofs.StepsMost.{steps_of, same_steps}
use Rattle.pass_ends.proofs.Halves.{laid_most}
use Rattle.pass_ends.proofs.Free.{free_sized, free_combine, free_laid}
use Rattle.pass_ends.proofs.decode_four.Statement.{statement}
use Rattle.pass_ends.proofs.decode_four.Tie as tie

module _ (s : tie.Start) where
  abbrev w : List ℤ
  w = s.args.work.now

  abbrev v : List ℤ
  v = segment w 4 4

  -- the four values, as the machine reads them
  own : (k : ℕ) → k < 4 → back w32 (get_or w (4 + k) (pos 0)) ≡ get_or v k (pos 0)
  own k l = ap (back w32) (sym (get_or-segment w 4 4 k (pos 0) l)) ∙ back-within s.requires.2 (omega arith) k

  -- of those half the node apart, neither is large
  small : (k : ℕ) → k < 2 → nat_abs (back w32 (get_or w (4 + k) (pos 0))) + nat_abs (back w32 (get_or w (4 + (2 + k)) (pos 0))) < 2 ^ 31
  small k l = omega (arith, ap nat_abs (own k (omega arith)), s.requires.2.at k, ap nat_abs (own (2 + k) (omega arith)), s.requires.2.at (2 + k))

f-requires : tie.Need-f-requires
f-requires c κs = let b = small c.before.before.before.before 0 (omega arith) in (omega (arith, b), omega (arith, b))

f-requires-2 : tie.Need-f-requires-2
f-requires-2 c κs = let b = small c.before.before.before.before.before 1 (omega arith) in (omega (arith, b), omega (arith, b))

-- after the left values
module _ (k : tie.After-f-2) where
  abbrev s : tie.Start
  s = k.before.before.before.before.before.before

  left-own : back w32 k.f.result ∷ back w32 k.f-2.result ∷ [] ≡ left_values 2 (v s)
  unfolding left_values table
  left-own =
      ap₂ (λ (x y : ℤ). x ∷ y ∷ [])
      (back_is w32 k.f.result (record { sfits = k.f.type_inv }) ∙ k.f.ensures ∙ ap₂ f (own s 0 (omega arith)) (own s 2 (omega arith)))
      (back_is w32 k.f-2.result (record { sfits = k.f-2.type_inv }) ∙ k.f-2.ensures ∙ ap₂ f (own s 1 (omega arith)) (own s 3 (omega arith)))

decode-two-requires : tie.Need-decode_two-l-requires
decode-two-requires c κs =
    let k = c.before.before.before in
    let p = (s k).requires in
    let low = subst (Within (most largest_n 2)) (sym (left-own k)) (within-left 2 p.2) in
    (p.0, omega (arith, p.1), omega (arith, low.at 0, low.at 1))

-- after the left half
module _ (l : tie.After-decode_two-l) where
  abbrev m : tie.After-f-2
  m = l.before.before.before.before

  abbrev sums : List ℕ
  sums = l.decode_two-l.new.sums

-- after the right values
module _ (n : tie.After-g-2) where
  abbrev l : tie.After-decode_two-l
  l = n.before.before.before.before.before

  right-own : back w32 n.g.result ∷ back w32 n.g-2.result ∷ [] ≡ right_values 2 (v (s (m l))) (segment (sums l) (s (m l)).args.base 2)
  unfolding right_values table
  right-own =
      let st = s (m l) in
      let base = st.args.base in
      let a = own st 0 (omega arith) in
      let b = own st 1 (omega arith) in
      let e = own st 2 (omega arith) in
      let d = own st 3 (omega arith) in
      let s₀ = ap (λ (i : ℕ). get_or (sums l) i 0) (sym (add-zero base)) ∙ sym (get_or-segment (sums l) base 2 0 0 (omega arith)) in
      let s₁ = sym (get_or-segment (sums l) base 2 1 0 (omega arith)) in
      ap₂ (λ (x y : ℤ). x ∷ y ∷ [])
      (back_is w32 n.g.result (record { sfits = n.g.type_inv }) ∙ n.g.ensures ∙ (λ t. g (a t) (e t) (s₀ t)))
      (back_is w32 n.g-2.result (record { sfits = n.g-2.type_inv }) ∙ n.g-2.ensures ∙ (λ t. g (b t) (d t) (s₁ t)))

decode-two-requires-2 : tie.Need-decode_two-r-requires
decode-two-requires-2 c κs =
    let n = c.before.before.before in
    let st = s (m (l n)) in
    let p = st.requires in
    let low = subst (Within (most largest_n 2 + most largest_n 2)) (sym (right-own n)) (within-right 2 (segment (sums (l n)) st.args.base 2) p.2) in
    (free_sized 1 _ st.args.rules.now (v st) p.0 p.1 (left-own (m (l n))) (l n).decode_two-l.ensures, omega (arith, p.1), omega (arith, low.at 0, low.at 1))

-- after the right half
module _ (r : tie.After-decode_two-r) where
  abbrev n : tie.After-g-2
  n = r.before.before.before.before

  abbrev start : tie.Start
  start = s (m (l n))

  -- the steps of the halves are few
  few : ((l n).decode_two-l.result.steps ≤ 2) × (r.decode_two-r.result.steps ≤ 2)
  few = (laid_most (l n).decode_two-l.ensures, laid_most r.decode_two-r.ensures)

combine-requires : tie.Need-combine-requires
combine-requires c κs =
    let r = c.before in
    let k = l (n r) in
    let p = (start r).requires in
    free_combine 1 _ (start r).args.rules.now (v (start r)) p.0 p.1 (left-own (m k)) k.decode_two-l.ensures (right-own (n r)) r.decode_two-r.ensures

-- all that is done
total : (a b : Work) → plus_work (counted 4) (plus_work a b) ≡ plus_work (plus_work (counted 2) a) (plus_work (counted 2) b)
total a b = let e : 4 + (a.steps + b.steps) ≡ 2 + a.steps + (2 + b.steps) = omega arith in same_steps e

returns : tie.Need-returns
returns c =
    let r = c.before.before.before.before.before in
    let k = l (n r) in
    let p = (start r).requires in
    let work = c.plus-2.ensures ∙ ap₂ plus_work c.of.ensures c.plus.ensures ∙ total _ _ in
    free_laid 1 _ (start r).args.rules.now (v (start r)) p.0 p.1 (left-own (m k)) k.decode_two-l.ensures (right-own (n r)) c.decode_two-r.ensures work c.combine.ensures

pub decode_four_spec : {M : Type 1} → statement M
decode_four_spec =
    tie.close
    (tie.spec
    (λ c. search rules)
    (λ c. search rules)
    (λ c. search rules)
    (λ c. search rules)
    f-requires
    f-requires-2
    decode-two-requires
    (λ c. search rules)
    (λ c. search rules)
    (λ c. search rules)
    (λ c. search rules)
    (λ c. search rules)
    (λ c κs. small c.before.before.before.before.before.before.before.before.before.before.before.before.before 0 (omega arith))
    (λ c κs. small c.before.before.before.before.before.before.before.before.before.before.before.before.before.before 1 (omega arith))
    decode-two-requires-2
    (λ c. search rules)
    combine-requires
    (λ c κs. search rules)
    (λ c κs. omega (arith, few c.before.before.before))
    (λ c κs. omega (arith, ap steps_of c.plus.ensures, ap steps_of c.before.of.ensures, few c.before.before.before.before))
    returns)
