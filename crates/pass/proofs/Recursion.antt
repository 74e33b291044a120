-- The recursion in place, call by call: what each call finds in the arrays, and what all of them leave.
use mathlib.Core.Path.{◌≡◌, refl, sym, ap, ◌∙◌, subst, subst₂}
use mathlib.Core.Bool.{Bool, false}
use mathlib.Core.List.{List}
use Prim.Native.Nat.{ℕ, ◌+◌, ◌-◌, ◌/◌, ◌^◌, ◌≤◌, ◌<◌}
use native.Mathlib.Omega.{arith}
use borrow.Author.Tests.{lt-leb}
use lib.Dec.{leb}
use lib.IntN.{ℤ}
use lib.ListN.{length, take, drop}
use Rattle.laws.specs.Clauses.{splice, segment}
use Rattle.laws.proofs.Segment.{length-segment, drop_past, segment-splice}
use Rattle.arrays.specs.Sizes.{largest_n}
use Rattle.arrays.proofs.Sizes.{fits, steps_fit, loudest}
use Rattle.bits.specs.Claims.{Bits}
use Rattle.bits.proofs.Lists.{bits-take, bits-drop}
use Rattle.transform.specs.Transform.{xors}
use Rattle.transform.specs.Clauses.{BitsAt}
use Rattle.transform.proofs.Halves.{Halving, halving}
use Rattle.values.specs.Values.{right_values, left_values}
use Rattle.values.specs.Claims.{Within}
use Rattle.values.proofs.Lengths.{length-right, length-left}
use Rattle.values.proofs.Bounds.{within_more, within-right, within-left}
use Rattle.pass_tree.specs.declared.Work.{Work}
use Rattle.pass_tree.specs.Node.{plus_work}
use Rattle.pass_tree.specs.Claims.{most}
use Rattle.pass_tree.specs.Clauses.{computed_unless}
use Rattle.pass_tree.proofs.Bounds.{most-below}
use Rattle.pass_tree.proofs.StepsMost.{steps_of, left-most}
use Rattle.pass_halves.specs.Clauses.{ValuesPost, ValuesPre, node_values, addable}
use Rattle.pass_halves.proofs.Layers.{computed-whole, computed-kept}
use Rattle.pass_ends.specs.Clauses.{Arrays, arrays, results_of, Whole, forced_bits, node_of, Stored}
use Rattle.pass_ends.proofs.Halves as by-halves
use Rattle.pass.specs.Clauses.{NodePre, NodePost}

-- ---- two halves

module _ {room layer size n h base q : ℕ} {a : Arrays} {v : List ℤ} (rules : List ℕ) (d : Halving layer size n h) (p : NodePre room layer size base q a v) (more : q < base + size) where
  split : by-halves.Split room layer size n h base q (results_of a)
  split = record {
    halving = d;
    fits = p.fits;
    sized = by-halves.sized_of p.whole;
    more = more;
  }

  abbrev F : List ℕ
  F = forced_bits a.bits base size q

  half : h + h ≤ room
  half = omega (arith, d.two, p.fits)

  deep : n ≤ largest_n
  deep = omega (arith, d.below, p.deep)

  twice : most largest_n n ≡ most largest_n layer + most largest_n layer
  twice = most-below largest_n n (omega (arith, d.below, p.deep)) ∙ ap (λ (k : ℕ). most largest_n k + most largest_n k) (sym d.below)

  -- after the left values
  module _ {w₁ : List ℤ} {done₁ : Work} (c₁ : ValuesPost (computed_unless (leb (base + h) q) (left_values h v)) h a.work w₁ done₁) where
    abbrev a₁ : Arrays
    a₁ = arrays w₁ a.bits a.sums a.leaves

    room-left : h + h ≤ length a.work
    room-left = omega (arith, half, p.whole.work)

    left-own : q < base + h → segment w₁ h h ≡ left_values h v
    left-own l =
        let e : leb (base + h) q ≡ false = lt-leb (base + h) q l in
        ap (λ (w : List ℤ). segment w h h) c₁.stored
        ∙ ap (λ (t : Bool). segment (splice a.work h (computed_unless t (left_values h v))) h h) e
        ∙ segment-splice a.work h (left_values h v) h (length-left h v) room-left

    pub left_at : NodePre room n h base q a₁ (segment w₁ h h)
    left_at = record {
      pow = d.pow;
      deep = deep;
      fits = omega (arith, d.two, p.fits);
      whole = record {
        work = computed-whole c₁ (left-most (leb (base + h) q) h v) room-left ∙ p.whole.work;
        bits = p.whole.bits;
        sums = p.whole.sums;
        leaves = p.whole.leaves;
      };
      bits = subst Bits (sym (by-halves.left-forced rules v split)) (bits-take h F p.bits);
      small = λ l. subst (Within (most largest_n n)) (sym (left-own l)) (within-left h (within_more (omega (arith, twice)) (p.small more)));
    }

    -- after the left node
    module _ {a₂ : Arrays} {done₂ : Work} (c₂ : NodePost n h base q rules (segment w₁ h h) a₁ a₂ done₂) where
      pub whole₂ : Whole room a₂
      whole₂ =
          let z = by-halves.sized₁ rules v split left-own c₂.node in
          record { work = c₂.whole ∙ left_at.whole.work; bits = z.bits; sums = z.sums; leaves = z.leaves }

      -- the node's own values are as they were
      pub own-kept : drop (h + h) a₂.work ≡ drop (h + h) a.work
      own-kept =
          drop_past w₁ a₂.work h (h + h) (omega arith) c₂.kept
          ∙ computed-kept c₁ (left-most (leb (base + h) q) h v) room-left

      -- after the right values
      module _ {w₃ : List ℤ} {done₃ : Work} (c₃ : ValuesPost (right_values h v (segment a₂.sums base h)) h a₂.work w₃ done₃) where
        abbrev a₃ : Arrays
        a₃ = arrays w₃ a₂.bits a₂.sums a₂.leaves

        room-right : h + h ≤ length a₂.work
        room-right = omega (arith, half, whole₂.work)

        long₃ : length (right_values h v (segment a₂.sums base h)) ≡ h
        long₃ = length-right h v (segment a₂.sums base h)

        right-own : segment w₃ h h ≡ right_values h v (segment a₂.sums base h)
        right-own =
            ap (λ (w : List ℤ). segment w h h) c₃.stored
            ∙ segment-splice a₂.work h (right_values h v (segment a₂.sums base h)) h long₃ room-right

        pub right-at : NodePre room n h (base + h) q a₃ (segment w₃ h h)
        right-at = record {
          pow = d.pow;
          deep = deep;
          fits = omega (arith, d.two, p.fits);
          whole = record {
            work = computed-whole c₃ (omega (arith, long₃)) room-right ∙ whole₂.work;
            bits = whole₂.bits;
            sums = whole₂.sums;
            leaves = whole₂.leaves;
          };
          bits = subst Bits (sym (by-halves.right-forced rules v split left-own c₂.node)) (bits-drop h F p.bits);
          small = λ l. subst₂ Within (sym twice) (sym right-own) (within-right h (segment a₂.sums base h) (p.small more));
        }

        -- after the right node
        module _ {a₄ : Arrays} {done₄ : Work} (c₄ : NodePost n h (base + h) q rules (segment w₃ h h) a₃ a₄ done₄) where
          pub whole₄ : Whole room a₄
          whole₄ =
              let z = by-halves.laid_sized d.pow (omega (arith, d.two, p.fits)) (by-halves.sized_of whole₂) c₄.node in
              record { work = c₄.whole ∙ right-at.whole.work; bits = z.bits; sums = z.sums; leaves = z.leaves }

          -- few enough to count
          pub left_few : done₁.steps + done₂.steps < 2 ^ 31
          left_few =
              let e = ap steps_of c₁.counted in
              omega (arith, left-most (leb (base + h) q) h v, d.pow, fits deep, steps_fit deep (by-halves.laid_most c₂.node))

          pub right_few : done₃.steps + done₄.steps < 2 ^ 31
          right_few =
              let e = ap steps_of c₃.counted in
              omega (arith, long₃, d.pow, fits deep, steps_fit deep (by-halves.laid_most c₄.node))

          pub combine_at : BitsAt room a₄.sums base (h + h)
          combine_at = by-halves.combine_at rules v split left-own c₂.node right-own c₄.node

          module _ {done : Work} (total : done ≡ plus_work (plus_work done₁ done₂) (plus_work done₃ done₄)) where
            pub stored : Stored (node_of layer size base q rules a.bits v) base (base + length F) (results_of a) (results_of a₄) done
            stored = by-halves.stored rules v split left-own c₂.node right-own c₄.node c₁.counted c₃.counted total

            -- after the sums are combined
            pub worked : {sums : List ℕ} → sums ≡ splice a₄.sums base (xors h (segment a₄.sums base h) (segment a₄.sums (base + h) h)) → NodePost layer size base q rules v a (arrays a₄.work a₄.bits sums a₄.leaves) done
            worked e = record {
              node = by-halves.halves_laid rules v split left-own c₂.node right-own c₄.node c₁.counted c₃.counted total e;
              kept =
                  ap (λ (k : ℕ). drop k a₄.work) d.two
                  ∙ drop_past w₃ a₄.work h (h + h) (omega arith) c₄.kept
                  ∙ computed-kept c₃ (omega (arith, long₃)) room-right ∙ own-kept
                  ∙ ap (λ (k : ℕ). drop k a.work) (sym d.two);
              whole = whole₄.work ∙ sym p.whole.work;
            }

-- ---- an inner node, whose own values stand in the working array

pub record Inner (room layer size n h base q : ℕ) (a : Arrays) : Type 0 where
  pub halving : Halving layer size n h
  pub pre : NodePre room layer size base q a (segment a.work size size)
  pub more : q < base + size
  pub double : size + size ≤ room

pub inner : {room layer size base q : ℕ} {a : Arrays} → ¬ (layer ≡ 0) → NodePre room layer size base q a (segment a.work size size) → q < base + size → size + size ≤ room → Inner room layer size (layer - 1) (size / 2) base q a
inner deep p more double = record { halving = halving deep p.pow; pre = p; more = more; double = double }

module _ {room layer size n h base q : ℕ} {a : Arrays} (rules : List ℕ) (i : Inner room layer size n h base q a) where
  abbrev v : List ℤ
  v = segment a.work size size

  own-values : (work : List ℤ) → drop (h + h) work ≡ drop (h + h) a.work → node_values work h ≡ v
  own-values work e = ap (take (h + h)) e ∙ ap (λ (k : ℕ). segment a.work k k) (sym i.halving.two)

  values-at : {work : List ℤ} → length work ≡ room → drop (h + h) work ≡ drop (h + h) a.work → ValuesPre room (λ w. node_values w h) h work
  values-at {work} whole e = record {
    whole = whole;
    fits = omega (arith, i.halving.two, i.double);
    long = length-segment work (h + h) (h + h) (omega (arith, i.halving.two, i.double, whole));
    small = subst (Within addable) (sym (own-values work e)) (within_more (omega (arith, loudest {n = largest_n - layer} (omega arith))) (i.pre.small i.more));
    apart = λ later same. ap (take (h + h)) same;
  }

  pub inner_at : ValuesPre room (λ w. node_values w h) h a.work
  inner_at = values-at i.pre.whole.work refl

  pub inner_half : h + h ≤ room
  inner_half = omega (arith, i.halving.two, i.double)

  module _ {w₁ : List ℤ} {done₁ : Work} (e₁ : ValuesPost (computed_unless (leb (base + h) q) (left_values h (node_values a.work h))) h a.work w₁ done₁) where
    c₁ : ValuesPost (computed_unless (leb (base + h) q) (left_values h v)) h a.work w₁ done₁
    c₁ = subst (λ (x : List ℤ). ValuesPost (computed_unless (leb (base + h) q) (left_values h x)) h a.work w₁ done₁) (own-values a.work refl) e₁

    pub inner_left : NodePre room n h base q (arrays w₁ a.bits a.sums a.leaves) (segment w₁ h h)
    inner_left = left_at rules i.halving i.pre i.more c₁

    module _ {a₂ : Arrays} {done₂ : Work} (c₂ : NodePost n h base q rules (segment w₁ h h) (arrays w₁ a.bits a.sums a.leaves) a₂ done₂) where
      kept : drop (h + h) a₂.work ≡ drop (h + h) a.work
      kept = own-kept rules i.halving i.pre i.more c₁ c₂

      pub inner_again : ValuesPre room (λ w. node_values w h) h a₂.work
      inner_again = values-at (whole₂ rules i.halving i.pre i.more c₁ c₂).work kept

      module _ {w₃ : List ℤ} {done₃ : Work} (e₃ : ValuesPost (right_values h (node_values a₂.work h) (segment a₂.sums base h)) h a₂.work w₃ done₃) where
        c₃ : ValuesPost (right_values h v (segment a₂.sums base h)) h a₂.work w₃ done₃
        c₃ = subst (λ (x : List ℤ). ValuesPost (right_values h x (segment a₂.sums base h)) h a₂.work w₃ done₃) (own-values a₂.work kept) e₃

        pub inner_right : NodePre room n h (base + h) q (arrays w₃ a₂.bits a₂.sums a₂.leaves) (segment w₃ h h)
        inner_right = right-at rules i.halving i.pre i.more c₁ c₂ c₃

        module _ {a₄ : Arrays} {done₄ : Work} (c₄ : NodePost n h (base + h) q rules (segment w₃ h h) (arrays w₃ a₂.bits a₂.sums a₂.leaves) a₄ done₄) where
          pub inner_few : (done₁.steps + done₂.steps < 2 ^ 31) × (done₃.steps + done₄.steps < 2 ^ 31)
          inner_few = (left_few rules i.halving i.pre i.more c₁ c₂ c₃ c₄, right_few rules i.halving i.pre i.more c₁ c₂ c₃ c₄)

          pub inner_combine : BitsAt room a₄.sums base (h + h)
          inner_combine = combine_at rules i.halving i.pre i.more c₁ c₂ c₃ c₄

          pub inner_worked : {sums : List ℕ} {done : Work} → done ≡ plus_work (plus_work done₁ done₂) (plus_work done₃ done₄) → sums ≡ splice a₄.sums base (xors h (segment a₄.sums base h) (segment a₄.sums (base + h) h)) → NodePost layer size base q rules v a (arrays a₄.work a₄.bits sums a₄.leaves) done
          inner_worked total = worked rules i.halving i.pre i.more c₁ c₂ c₃ c₄ total
