-- Nodes that end the recursion, as it sees them: all bits forced, or worked on by value.
use mathlib.Core.Path.{◌≡◌, refl, sym, ap, ◌∙◌, subst, subst₂}
use mathlib.Core.List.{List, [], ◌∷◌}
use Prim.Native.Nat.{ℕ, ◌+◌, ◌-◌, ◌≤◌, ◌<◌}
use native.Mathlib.Omega.{arith}
use lib.IntN.{ℤ, pos}
use lib.ListN.{length, get_or, take}
use lib.Seq.{take_all, drop-cons}
use mathlib.Core.Bool.{Bool, true, ◌&&◌, and-eq-true_iff}
use borrow.Author.Tests.{leb-true, eqb-true}
use lib.Dec.{eqb, leb}
use Rattle.laws.specs.Clauses.{splice, segment}
use Rattle.laws.proofs.Segment.{length-segment, splice-nil, splice-segment}
use Rattle.bits.specs.Claims.{Bits}
use Rattle.transform.specs.Transform.{transformed}
use Rattle.transform.specs.Clauses.{BitsAt}
use Rattle.pass_tree.specs.Node.{work_of, Out, forced}
use Rattle.pass_tree.specs.declared.Work.{Work}
use Rattle.pass_tree.proofs.Node.{node-forced}
use Rattle.pass_ends.specs.Clauses.{Arrays, arrays, results, results_of, forced_bits, rules_from, node_of, StoredSums, Results, NodeStored}
use Rattle.pass_ends.proofs.Halves.{none-forced}
use Rattle.pass.specs.Clauses.{NodePre, NodePost}

-- all bits forced: the sums are rebuilt, and nothing else changes
module _ {room layer size base q : ℕ} {a : Arrays} {v : List ℤ} (rules : List ℕ) (p : NodePre room layer size base q a v) (l : base + size ≤ q) where
  abbrev own : List ℕ
  own = segment a.bits base size

  long : length own ≡ size
  long = length-segment a.bits base size (omega (arith, p.fits, p.whole.bits))

  all : forced_bits a.bits base size q ≡ own
  all = take_all (q - base) own (omega (arith, long))

  pub forced-bits : BitsAt room a.bits base size
  forced-bits = record { whole = p.whole.bits; fits = p.fits; bits = subst Bits all p.bits }

  forced-is : node_of layer size base q rules a.bits v ≡ forced layer own
  forced-is =
      node-forced layer (forced_bits a.bits base size q) (rules_from rules base) v (omega (arith, ap length all, long, p.pow)) ∙ ap (forced layer) all

  pub forced-worked : {sums : List ℕ} {done : Work} → sums ≡ splice a.sums base (transformed layer own) → done ≡ work_of [] → NodePost layer size base q rules v a (arrays a.work a.bits sums a.leaves) done
  forced-worked {sums} {done} e of =
      let at : ℕ = base + length (forced_bits a.bits base size q) in
      record {
        node = record {
          laid =
              subst (λ (o : Out). StoredSums o base at (results_of a) (results a.bits sums a.leaves) done) (sym forced-is)
              (record {
                stored = record {
                  bits = sym (splice-segment a.bits base size (omega (arith, p.fits, p.whole.bits)));
                  leaves = sym (splice-nil a.leaves at);
                  work = of;
                };
                sums = e;
              });
        };
        kept = refl;
        whole = refl;
      }

-- ---- by value

-- what the test of a small node says
pub is_free : (layer base q : ℕ) {t : Bool} → t ≡ (eqb layer 2 && leb q base) → t ≡ true → (layer ≡ 2) × (q ≤ base)
is_free layer base q e taken =
    let both = (and-eq-true_iff (eqb layer 2) (leb q base)).0 (sym e ∙ taken) in
    (eqb-true _ _ both.0, leb-true _ _ both.1)

-- the value of a leaf stands at 1
pub one_value : {size : ℕ} (w : List ℤ) → size ≡ 1 → 1 < length w → segment w size size ≡ get_or w 1 (pos 0) ∷ []
one_value w e l = ap (λ (k : ℕ). segment w k k) e ∙ ap (take 1) (drop-cons w 1 (pos 0) l)

-- a small node is the one of the recursion
pub by_value : {layer k size m base q : ℕ} {rules : List ℕ} {a : Arrays} {v x : List ℤ} {r : Results} {done did : Work} → layer ≡ k → size ≡ m → v ≡ x → q ≤ base → done ≡ did → NodeStored k m base base rules x (results_of a) r did → NodePost layer size base q rules v a (arrays a.work r.bits r.sums r.leaves) done
by_value {layer} {k} {size} {m} {base} {q} {rules} {a} {v} {x} {r} {done} {did} el es ev l of y = record {
  node =
      none-forced (omega arith) l
      (subst₂ (λ (i j : ℕ). NodeStored i j base base rules v (results_of a) r done) (sym el) (sym es)
      (subst (λ (w : Work). NodeStored k m base base rules v (results_of a) r w) (sym of)
      (subst (λ (u : List ℤ). NodeStored k m base base rules u (results_of a) r did) (sym ev) y)));
  kept = refl;
  whole = refl;
}
