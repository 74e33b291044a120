-- The exclusive-or of two lists, bit by bit.
use mathlib.Core.Path.{◌≡◌, sym, ap, ◌∙◌}
use mathlib.Core.List.{List}
use Prim.Native.Nat.{ℕ, ◌+◌, ◌%◌, ◌<◌}
use native.Mathlib.Nat.{mod-lt, zero-lt-suc}
use native.Mathlib.Omega.{arith}
use lib.ListN.{length, get_or}
use Rattle.laws.specs.Table.{table}
use Rattle.laws.proofs.Table.{length-table, get_or-table, table_ext, table-get_or}
use Rattle.bits.specs.Claims.{Bits}
use Rattle.bits.proofs.Lists.{bits-table}
use Rattle.transform.specs.Transform.{xors}

module _ (h : ℕ) (a b : List ℕ) where
  pub length-xors : length (xors h a b) ≡ h
  unfolding xors
  length-xors = length-table _ h

  pub bits-xors : Bits (xors h a b)
  unfolding xors
  bits-xors = bits-table _ h (λ j. mod-lt _ (zero-lt-suc 1))

  pub get_or-xors : (j : ℕ) → j < h → get_or (xors h a b) j 0 ≡ (get_or a j 0 + get_or b j 0) % 2
  unfolding xors
  get_or-xors j l = get_or-table _ h j 0 l

  -- the second list, put in twice, goes out again
  pub xors-back : length a ≡ h → Bits a → xors h (xors h a b) b ≡ a
  unfolding xors
  xors-back len p =
      table_ext _ (λ j. get_or a j 0) h (λ j l. omega (arith, get_or-xors j l, p.at j))
      ∙ ap (table (λ j. get_or a j 0)) (sym len) ∙ table-get_or a 0
