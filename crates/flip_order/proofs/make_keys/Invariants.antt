-- The keys of the indices before this one stand in the place of their leaf values.
use Rattle.std.proofs.Common.{ℕ, ℤ, pos, List, length, get_or}
use Rattle.laws.proofs.Filling.{Filling}
use Rattle.flip_order.specs.Clauses.{key_under}
use Rattle.flip_order.proofs.make_keys.Given as goal

-- the key of an index with its leaf value
abbrev pub key_at : List ℕ → List ℤ → ℕ → ℤ
key_at mask values i = pos (key_under mask (get_or values i (pos 0)) i)

abbrev pub invariant-loop-i : goal.invariant-loop-i
invariant-loop-i l = Filling (key_at l.mask l.fn.values) 0 (length l.initial.value-items) l.initial.value-items l.value-items l.i
