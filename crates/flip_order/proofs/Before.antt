-- Which of two indices stands first: a strict order, total on different indices.
use mathlib.Core.Path.{◌≡◌}
use mathlib.Core.Bool.{true, false}
use mathlib.Core.Logic.{◌⊎◌, inl, inr, ⊎_elim}
use mathlib.Core.List.{List}
use Prim.Native.Nat.{ℕ, ◌<◌}
use native.Mathlib.Omega.{arith}
use borrow.Author.Tests.{ltb-true, ltb-false, lt-ltb}
use lib.Dec.{ltb}
use lib.IntN.{ℤ}
use Rattle.laws.proofs.Choice.{is_true}
use Rattle.laws.proofs.Earlier.{first_by-of, first_by_trans, first_by_either}
use Rattle.flip_order.specs.Order.{magnitude_at, before}

module _ (leaves : List ℤ) where
  -- a smaller magnitude, or an equal one with a lower index
  abbrev pub First : ℕ → ℕ → Type 0
  First i j = (magnitude_at leaves i < magnitude_at leaves j) ⊎ ((magnitude_at leaves i ≡ magnitude_at leaves j) × (i < j))

  pub before-first : (i j : ℕ) → before leaves i j ≡ true → First i j
  before-first i j h =
      ⊎_elim inl (λ p. inr (p.0, ltb-true i j p.1)) (first_by-of (magnitude_at leaves i) (magnitude_at leaves j) (ltb i j) h)

  pub before_irrefl : (i : ℕ) → before leaves i i ≡ true → ⊥
  before_irrefl i h = ⊎_elim (λ l. omega arith) (λ p. omega arith) (before-first i i h)

  pub before_trans : (i j k : ℕ) → before leaves i j ≡ true → before leaves j k ≡ true → before leaves i k ≡ true
  before_trans i j k =
      first_by_trans (magnitude_at leaves i) (magnitude_at leaves j) (magnitude_at leaves k) (ltb i j) (ltb j k) (ltb i k)
      (λ p q. lt-ltb i k (omega (arith, ltb-true i j p, ltb-true j k q)))

  pub before_total : (i j : ℕ) → before leaves i j ≡ false → (i ≡ j → ⊥) → before leaves j i ≡ true
  before_total i j h d = is_true (before leaves j i) (λ e.
      let q = first_by_either (magnitude_at leaves i) (magnitude_at leaves j) (ltb i j) (ltb j i) h e in
      d (omega (arith, ltb-false i j q.1, ltb-false j i q.2)))
