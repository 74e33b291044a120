-- A node in the arrays of its results, by its two halves: what each half finds there, and what both leave.
use mathlib.Core.Path.{◌≡◌, refl, sym, ap, ap₂, ◌∙◌, subst, subst₂}
use mathlib.Core.Bool.{Bool, true, false}
use mathlib.Core.List.{List, [], ◌∷◌, ◌++◌}
use Prim.Native.Nat.{ℕ, suc, ◌+◌, ◌-◌, ◌*◌, ◌^◌, ◌≤◌, ◌<◌, min}
use native.Mathlib.Nat.{add_assoc, two-pow-succ}
use native.Mathlib.Omega.{arith}
use borrow.Author.Tests.{le-leb, lt-leb, leb-true, leb-false}
use lib.Dec.{leb}
use lib.IntN.{ℤ}
use lib.ListN.{length, take, drop, length-take, length-drop, length-append}
use lib.Pow.{pow_pos}
use lib.Seq.{take-take}
use Rattle.laws.specs.Clauses.{splice, segment}
use Rattle.laws.proofs.Segment.{take_swap, drop_of_take, length-segment, segment-back, drop-splice, segment-splice, length-splice, splice-nil, splice-next}
use Rattle.bits.proofs.Lists.{bits-append}
use Rattle.transform.specs.Transform.{xors}
use Rattle.transform.specs.Clauses.{BitsAt}
use Rattle.transform.proofs.BitsAt.{bits_at_splice}
use Rattle.transform.proofs.Halves.{Halving}
use Rattle.values.specs.Values.{Rule, right_values, left_values}
use Rattle.pass_tree.specs.declared.Work.{Work}
use Rattle.pass_tree.specs.Node.{work_of, plus_work, Out, node}
use Rattle.pass_tree.specs.Clauses.{computed_unless}
use Rattle.pass_tree.proofs.Node.{left_of, left, right, halves, length-bits, length-sums, length-leaves, node-forced, node-halves}
use Rattle.pass_tree.proofs.StepsMost.{steps_most}
use Rattle.pass_tree.proofs.Sums.{bits-sums}
use Rattle.pass_ends.specs.Clauses.{rule_at, Results, results, Sized, Arrays, results_of, Whole, forced_bits, rules_from, node_of, Stored, StoredSums, NodeStored}
use Rattle.pass_ends.proofs.Combined.{combined-sums}

length_none : {A : Type 0} (l : List A) → length l ≡ 0 → l ≡ []
length_none [] e = refl
length_none (x ∷ l) e = absurd (omega arith)

pub sized_of : {room : ℕ} {a : Arrays} → Whole room a → Sized room (results_of a)
sized_of w = record { bits = w.bits; sums = w.sums; leaves = w.leaves }

-- every array keeps its length
pub laid_sized : {room layer size base q : ℕ} {rules : List ℕ} {v : List ℤ} {r r' : Results} {done : Work} → size ≡ 2 ^ layer → base + size ≤ room → Sized room r → NodeStored layer size base q rules v r r' done → Sized room r'
laid_sized {room} {layer} {size} {base} {q} {rules} {v} {r} pow fits z l =
    let P : List ℕ = forced_bits r.bits base size q in
    let rule : ℕ → Rule = rules_from rules base in
    let o : Out = node layer P rule v in
    let zb = z.bits in
    let zs = z.sums in
    let zl = z.leaves in
    let long = length-segment r.bits base size (omega arith) in
    let short : length P ≤ 2 ^ layer = omega (arith, length-take (q - base) (segment r.bits base size)) in
    let nb = length-bits layer P rule v short in
    let ns = length-sums layer P rule v in
    let nl = length-leaves layer P rule v short in
    record {
      bits = ap length l.laid.stored.bits ∙ length-splice r.bits base o.bits _ refl (omega arith) ∙ zb;
      sums = ap length l.laid.sums ∙ length-splice r.sums base o.sums _ refl (omega arith) ∙ zs;
      leaves = ap length l.laid.stored.leaves ∙ length-splice r.leaves (base + length P) o.leaves _ refl (omega arith) ∙ zl;
    }

pub laid_most : {layer size base q : ℕ} {rules : List ℕ} {v : List ℤ} {r r' : Results} {done : Work} → NodeStored layer size base q rules v r r' done → done.steps ≤ layer * 2 ^ layer
laid_most {layer} {size} {base} {q} {rules} {v} {r} l =
    subst (λ (w : Work). w.steps ≤ layer * 2 ^ layer) (sym l.laid.stored.work) (steps_most layer (forced_bits r.bits base size q) (rules_from rules base) v)

-- if no bit of a node is forced it does not matter which earlier ones are
pub none-forced : {layer size base q q' : ℕ} {rules : List ℕ} {v : List ℤ} {r r' : Results} {done : Work} → q ≤ base → q' ≤ base → NodeStored layer size base q rules v r r' done → NodeStored layer size base q' rules v r r' done
none-forced {layer} {size} {base} {q} {q'} {rules} {v} {r} {r'} {done} l l' x =
    let e : q - base ≡ q' - base = omega arith in
    record {
      laid =
          subst (λ (k : ℕ). let F = take k (segment r.bits base size) in StoredSums (node layer F (rules_from rules base) v) base (base + length F) r r' done) e
          x.laid;
    }

-- a node that has two halves, not all of whose bits are forced
pub record Split (room layer size n h base q : ℕ) (r : Results) : Type 0 where
  pub halving : Halving layer size n h
  pub fits : base + size ≤ room
  pub sized : Sized room r
  pub more : q < base + size

module _ {room layer size n h base q : ℕ} {r : Results} (rules : List ℕ) (v : List ℤ) (s : Split room layer size n h base q r) where
  abbrev d : Halving layer size n h
  d = s.halving

  abbrev z : Sized room r
  z = s.sized

  abbrev F : List ℕ
  F = forced_bits r.bits base size q

  abbrev rule : ℕ → Rule
  rule = rules_from rules base

  abbrev L : Out
  L = left n h F rule v

  abbrev R : Out
  R = right n h F rule v

  F-is : length F ≡ min (q - base) size
  F-is =
      length-take (q - base) (segment r.bits base size)
      ∙ ap (min (q - base)) (length-segment r.bits base size (omega (arith, s.fits, z.bits)))

  -- the node's halves, by the definition
  halves_are : node_of layer size base q rules r.bits v ≡ halves n h F rule v
  halves_are =
      let shorter : length F < 2 ^ suc n = omega (arith, F-is, s.more, d.two, d.pow, two-pow-succ n, pow_pos n) in
      ap (λ (k : ℕ). node k F rule v) d.below ∙ node-halves n F rule v shorter ∙ ap (λ (k : ℕ). halves n k F rule v) (sym d.pow)

  -- whether the left half is forced
  test : leb (base + h) q ≡ leb h (length F)
  test = go (leb (base + h) q) refl
    where
      go : (t : Bool) → leb (base + h) q ≡ t → leb (base + h) q ≡ leb h (length F)
      go true e = e ∙ sym (le-leb h (length F) (omega (arith, F-is, leb-true (base + h) q e, d.two)))
      go false e = e ∙ sym (lt-leb h (length F) (omega (arith, F-is, leb-false (base + h) q e, d.pow, pow_pos n)))

  -- the left half's own forced bits
  pub left-forced : forced_bits r.bits base h q ≡ take h F
  left-forced =
      let X : List ℕ = drop base r.bits in
      ap (take (q - base)) (sym (take-take h size X (omega (arith, d.two)))) ∙ take_swap (q - base) h (take size X)

  -- after the left half, whose values are the definition's if they are needed
  module _ {v₁ : List ℤ} {r₁ : Results} {done₂ : Work} (own₁ : q < base + h → v₁ ≡ left_values h v) (l : NodeStored n h base q rules v₁ r r₁ done₂) where
    left_is : node_of n h base q rules r.bits v₁ ≡ L
    left_is = ap (λ (f : List ℕ). node n f rule v₁) left-forced ∙ go (leb h (length F)) refl
      where
        go : (t : Bool) → leb h (length F) ≡ t → node n (take h F) rule v₁ ≡ node n (take h F) rule (left_of h F v)
        go true e =
            let full : 2 ^ n ≤ length (take h F) = omega (arith, length-take h F, leb-true h (length F) e, d.pow) in
            node-forced n (take h F) rule v₁ full ∙ sym (node-forced n (take h F) rule (left_of h F v) full)
        go false e =
            ap (node n (take h F) rule) (own₁ (leb-false (base + h) q (test ∙ e)) ∙ ap (λ (t : Bool). computed_unless t (left_values h v)) (sym e))

    left_laid : StoredSums L base (base + length (take h F)) r r₁ done₂
    left_laid = subst₂ (λ (o : Out) (f : List ℕ). StoredSums o base (base + length f) r r₁ done₂) left_is left-forced l.laid

    pub sized₁ : Sized room r₁
    sized₁ = laid_sized d.pow (omega (arith, d.two, s.fits)) z l

    length_L_bits : length L.bits ≡ h
    length_L_bits = length-bits n (take h F) rule (left_of h F v) (omega (arith, length-take h F, d.pow)) ∙ sym d.pow

    length_L_sums : length L.sums ≡ h
    length_L_sums = length-sums n (take h F) rule (left_of h F v) ∙ sym d.pow

    left-sums : segment r₁.sums base h ≡ L.sums
    left-sums =
        ap (λ (x : List ℕ). segment x base h) left_laid.sums
        ∙ segment-splice r.sums base L.sums h length_L_sums (omega (arith, d.two, s.fits, z.sums))

    pub right-forced : forced_bits r₁.bits (base + h) h q ≡ drop h F
    right-forced =
        let e : q - (base + h) ≡ q - base - h = omega arith in
        let kept : segment r₁.bits (base + h) h ≡ drop h (segment r.bits base size) =
        ap (λ (b : List ℕ). segment b (base + h) h) left_laid.stored.bits
        ∙ ap (take h) (drop-splice r.bits base L.bits h length_L_bits (omega (arith, d.two, s.fits, z.bits)))
        ∙ sym (segment-back r.bits base h) ∙ ap (λ (k : ℕ). drop h (segment r.bits base k)) (sym d.two) in
        ap₂ take e kept ∙ sym (drop_of_take h (q - base) (segment r.bits base size))

    -- after the right half
    module _ {v₃ : List ℤ} {r₂ : Results} {done₄ : Work} (own₃ : v₃ ≡ right_values h v (segment r₁.sums base h)) (g : NodeStored n h (base + h) q rules v₃ r₁ r₂ done₄) where
      right_is : node_of n h (base + h) q rules r₁.bits v₃ ≡ R
      right_is =
          ap₂ (λ (f : List ℕ) (x : List ℤ). node n f (rules_from rules (base + h)) x) right-forced (own₃ ∙ ap (right_values h v) left-sums)
          ∙ ap (λ (k : ℕ → Rule). node n (drop h F) k (right_values h v L.sums)) (λ t i. rule_at rules (add_assoc base h i t))

      right_laid : StoredSums R (base + h) (base + h + length (drop h F)) r₁ r₂ done₄
      right_laid = subst₂ (λ (o : Out) (f : List ℕ). StoredSums o (base + h) (base + h + length f) r₁ r₂ done₄) right_is right-forced g.laid

      drop-short : length (drop h F) ≤ 2 ^ n
      drop-short = omega (arith, length-drop h F, F-is, d.two, d.pow)

      length_R_bits : length R.bits ≡ h
      length_R_bits = length-bits n (drop h F) (λ i. rule (h + i)) (right_values h v L.sums) drop-short ∙ sym d.pow

      length_R_sums : length R.sums ≡ h
      length_R_sums = length-sums n (drop h F) (λ i. rule (h + i)) (right_values h v L.sums) ∙ sym d.pow

      both_bits : r₂.bits ≡ splice r.bits base (L.bits ++ R.bits)
      both_bits =
          right_laid.stored.bits ∙ ap (λ (b : List ℕ). splice b (base + h) R.bits) left_laid.stored.bits
          ∙ splice-next r.bits base L.bits R.bits h h length_L_bits length_R_bits (omega (arith, d.two, s.fits, z.bits))

      both_sums : r₂.sums ≡ splice r.sums base (L.sums ++ R.sums)
      both_sums =
          right_laid.sums ∙ ap (λ (x : List ℕ). splice x (base + h) R.sums) left_laid.sums
          ∙ splice-next r.sums base L.sums R.sums h h length_L_sums length_R_sums (omega (arith, d.two, s.fits, z.sums))

      -- the leaf values of the left half end where those of the right half begin, or there are none
      both-leaves : r₂.leaves ≡ splice r.leaves (base + length F) (L.leaves ++ R.leaves)
      both-leaves =
          right_laid.stored.leaves
          ∙ ap (λ (x : List ℤ). splice x (base + h + length (drop h F)) R.leaves) left_laid.stored.leaves ∙ go (leb h (length F)) refl
        where
          left_many : length (take h F) + length L.leaves ≡ h
          left_many = length-leaves n (take h F) rule (left_of h F v) (omega (arith, length-take h F, d.pow)) ∙ sym d.pow

          right_many : length (drop h F) + length R.leaves ≡ h
          right_many = length-leaves n (drop h F) (λ i. rule (h + i)) (right_values h v L.sums) drop-short ∙ sym d.pow

          go : (t : Bool) → leb h (length F) ≡ t → splice (splice r.leaves (base + length (take h F)) L.leaves) (base + h + length (drop h F)) R.leaves ≡ splice r.leaves (base + length F) (L.leaves ++ R.leaves)
          go true e =
              let l : h ≤ length F = leb-true h (length F) e in
              let none : L.leaves ≡ [] = length_none L.leaves (omega (arith, left_many, length-take h F)) in
              let start : base + h + length (drop h F) ≡ base + length F = omega (arith, length-drop h F) in
              ap (λ (x : List ℤ). splice (splice r.leaves (base + length (take h F)) x) (base + h + length (drop h F)) R.leaves) none
              ∙ ap (λ (w : List ℤ). splice w (base + h + length (drop h F)) R.leaves) (splice-nil r.leaves (base + length (take h F)))
              ∙ ap₂ (λ (k : ℕ) (x : List ℤ). splice r.leaves k (x ++ R.leaves)) start (sym none)
          go false e =
              let l : length F < h = leb-false h (length F) e in
              let same : length (take h F) ≡ length F = omega (arith, length-take h F) in
              let m : ℕ = length L.leaves in
              let start : base + h + length (drop h F) ≡ base + length F + m = omega (arith, length-drop h F, left_many) in
              ap₂ (λ (j k : ℕ). splice (splice r.leaves (base + j) L.leaves) k R.leaves) same start
              ∙ splice-next r.leaves (base + length F) L.leaves R.leaves m (length R.leaves) refl refl
              (omega (arith, left_many, right_many, d.two, s.fits, z.leaves))

      pub combine_at : BitsAt room r₂.sums base (h + h)
      combine_at =
          bits_at_splice r.sums base (L.sums ++ R.sums) both_sums (omega (arith, length-append L.sums R.sums, length_L_sums, length_R_sums)) z.sums (omega (arith, d.two, s.fits))
          (bits-append L.sums R.sums (bits-sums n (take h F) rule (left_of h F v)) (bits-sums n (drop h F) (λ i. rule (h + i)) (right_values h v L.sums)))

      -- each half's values were counted, if they were computed
      module _ {done₁ done₃ done : Work} (counted₁ : done₁ ≡ work_of (computed_unless (leb (base + h) q) (left_values h v))) (counted₃ : done₃ ≡ work_of (right_values h v (segment r₁.sums base h)))
          (total : done ≡ plus_work (plus_work done₁ done₂) (plus_work done₃ done₄)) where
        all-stored : Stored (halves n h F rule v) base (base + length F) r r₂ done
        all-stored = record {
          bits = both_bits;
          leaves = both-leaves;
          work =
              total
              ∙ ap₂ plus_work
              (ap₂ plus_work (counted₁ ∙ ap (λ (t : Bool). work_of (computed_unless t (left_values h v))) test) left_laid.stored.work)
              (ap₂ plus_work (counted₃ ∙ ap (λ (x : List ℕ). work_of (right_values h v x)) left-sums) right_laid.stored.work);
        }

        pub stored : Stored (node_of layer size base q rules r.bits v) base (base + length F) r r₂ done
        stored = subst (λ (o : Out). Stored o base (base + length F) r r₂ done) (sym halves_are) all-stored

        -- after the sums are combined
        pub halves_laid : {sums : List ℕ} → sums ≡ splice r₂.sums base (xors h (segment r₂.sums base h) (segment r₂.sums (base + h) h)) → NodeStored layer size base q rules v r (results r₂.bits sums r₂.leaves) done
        halves_laid {sums} e = record {
          laid =
              subst (λ (o : Out). StoredSums o base (base + length F) r (results r₂.bits sums r₂.leaves) done) (sym halves_are)
              (record {
                stored = let p = all-stored in record { bits = p.bits; leaves = p.leaves; work = p.work };
                sums = combined-sums r.sums base L.sums R.sums length_L_sums length_R_sums (omega (arith, d.two, s.fits, z.sums)) both_sums e;
              });
        }
