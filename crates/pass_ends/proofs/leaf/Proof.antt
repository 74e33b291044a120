-- `pass_ends::leaf` meets its contract.
use mathlib.Core.Path.{◌≡◌, refl, sym, ap, ◌∙◌, subst₂}
use mathlib.Core.List.{List, [], ◌∷◌}
use Prim.Native.Nat.{ℕ, ◌+◌, ◌-◌, ◌<◌}
use native.Mathlib.Nat.{add-zero}
use native.Mathlib.Omega.{arith}
use borrow.Author.Rules.{rules}
use lib.IntN.{ℤ}
use lib.ListN.{length, set, length-take}
use lib.Seq.{get_or-set_same}
use mir.Syntax.{w32}
use Rattle.laws.specs.Clauses.{splice, segment}
use Rattle.laws.proofs.Signed.{back_is}
use Rattle.laws.proofs.Segment.{set-splice}
use Rattle.values.specs.Values.{decided}
use Rattle.pass_tree.specs.Node.{work_of, Out, leaf}
use Rattle.pass_tree.proofs.Node.{node-leaf}
use Rattle.pass_ends.specs.Clauses.{rule_at, Results, forced_bits, rules_from, node_of, StoredSums, NodeStored}
use Rattle.pass_ends.proofs.leaf.Statement.{statement}
use Rattle.pass_ends.proofs.leaf.Tie as tie

-- one store
stored : {A : Type 0} (w : List A) (i : ℕ) (x y : A) → i < length w → x ≡ y → set w i x ≡ splice w i (y ∷ [])
stored w i x y l e = ap (set w i) e ∙ set-splice w i y l

-- it is a node of one index whose bit is not forced
leaf-laid : (rules : List ℕ) (base : ℕ) (value : ℤ) {r r' : Results} → StoredSums (leaf (rule_at rules base) value) base base r r' (work_of []) → NodeStored 0 1 base base rules (value ∷ []) r r' (work_of [])
leaf-laid rules base value {r} {r'} l = record { laid = subst₂ (λ (o : Out) (k : ℕ). StoredSums o base k r r' (work_of [])) (sym is) at l }
  where
    at : base ≡ base + length (forced_bits r.bits base 1 base)
    at = omega (arith, length-take (base - base) (segment r.bits base 1))

    is : node_of 0 1 base base rules r.bits (value ∷ []) ≡ leaf (rule_at rules base) value
    is =
        node-leaf (forced_bits r.bits base 1 base) (rules_from rules base) (value ∷ []) (omega (arith, at))
        ∙ ap (λ (k : ℕ). leaf (rule_at rules k) value) (add-zero base)

returns : tie.Need-returns
returns c =
    let base = c.args.base in
    let rules = c.args.rules.now in
    let same = back_is w32 c.args.value c.ranges.value in
    let z = c.requires.0 in
    let bit = c.decide-bit.ensures ∙ ap (decided (rule_at rules base)) same in (
      sym (get_or-set_same c.args.sums.now base _ 0 (omega (arith, c.requires.1, z.sums))),
      leaf-laid rules base c.args.value
          (record {
            stored = record {
              bits = stored c.args.bits.now base _ _ (omega (arith, c.requires.1, z.bits)) bit;
              leaves = stored c.args.leaves.now base _ _ (omega (arith, c.requires.1, z.leaves)) same;
              work = refl;
            };
            sums = stored c.args.sums.now base _ _ (omega (arith, c.requires.1, z.sums)) bit;
          }),
    )

pub leaf_spec : {M : Type 1} → statement M
leaf_spec =
    tie.close
    (tie.spec
    (λ c. search rules)
    (λ c κs. search rules)
    (λ c. search rules)
    (λ c. search rules)
    (λ c. search rules)
    (λ c. search rules)
    returns)
