-- A node without forced bits, worked on by value: what its halves find and leave.
use mathlib.Core.Path.{◌≡◌, refl, sym, ap, ◌∙◌}
use mathlib.Core.Bool.{Bool}
use mathlib.Core.List.{List}
use Prim.Native.Nat.{ℕ, suc, ◌+◌, ◌^◌, ◌≤◌}
use native.Mathlib.Omega.{arith}
use borrow.Author.Tests.{lt-leb}
use lib.IntN.{ℤ}
use lib.Pow.{pow_pos}
use Rattle.laws.specs.Clauses.{splice, segment}
use Rattle.transform.specs.Transform.{xors}
use Rattle.transform.specs.Clauses.{BitsAt}
use Rattle.values.specs.Values.{right_values, left_values}
use Rattle.values.proofs.Lengths.{length-right, length-left}
use Rattle.pass_tree.specs.declared.Work.{Work}
use Rattle.pass_tree.specs.Node.{work_of, plus_work}
use Rattle.pass_tree.specs.Clauses.{computed_unless, counted}
use Rattle.pass_ends.specs.Clauses.{Results, results, Sized, NodeStored}
use Rattle.pass_ends.proofs.Halves.{none-forced, Split, sized₁, combine_at, halves_laid}

-- two halves at layer n
module _ {room : ℕ} (n base : ℕ) (rules : List ℕ) (v : List ℤ) {r : Results} (z : Sized room r) (fits : base + (2 ^ n + 2 ^ n) ≤ room) where
  abbrev h : ℕ
  h = 2 ^ n

  split : Split room (suc n) (h + h) n h base base r
  split = record {
    halving = record { below = refl; pow = refl; two = refl };
    fits = fits;
    sized = z;
    more = omega (arith, pow_pos n);
  }

  -- after the left half
  module _ {v₁ : List ℤ} {r₁ : Results} {done₂ : Work} (own₁ : v₁ ≡ left_values h v) (l : NodeStored n h base base rules v₁ r r₁ done₂) where
    pub free_sized : Sized room r₁
    free_sized = sized₁ rules v split (λ _. own₁) l

    -- after the right half
    module _ {v₃ : List ℤ} {r₂ : Results} {done₄ : Work} (own₃ : v₃ ≡ right_values h v (segment r₁.sums base h)) (g : NodeStored n h (base + h) (base + h) rules v₃ r₁ r₂ done₄) where
      after : NodeStored n h (base + h) base rules v₃ r₁ r₂ done₄
      after = none-forced (omega arith) (omega arith) g

      pub free_combine : BitsAt room r₂.sums base (h + h)
      free_combine = combine_at rules v split (λ _. own₁) l own₃ after

      -- each half has h values
      pub free_laid : {sums : List ℕ} {done : Work} → done ≡ plus_work (plus_work (counted h) done₂) (plus_work (counted h) done₄) → sums ≡ splice r₂.sums base (xors h (segment r₂.sums base h) (segment r₂.sums (base + h) h)) → NodeStored (suc n) (h + h) base base rules v r (results r₂.bits sums r₂.leaves) done
      free_laid total e =
          halves_laid rules v split (λ _. own₁) l own₃ after
          (ap counted (sym (length-left h v)) ∙ ap (λ (t : Bool). work_of (computed_unless t (left_values h v))) (sym (lt-leb (base + h) base (omega (arith, pow_pos n)))))
          (ap counted (sym (length-right h v (segment r₁.sums base h)))) total e
