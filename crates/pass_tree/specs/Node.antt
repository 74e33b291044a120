-- Document 01, "A decoding pass" and "Resume": one node of the tree, on its own indices, with its first bits forced.
use Rattle.std.specs.Prelude.{cond, List, [], ◌∷◌, ◌++◌, ℕ, zero, suc, ◌+◌, ◌^◌, leb, ℤ, pos, length, get_or, take, drop}
use Rattle.transform.specs.Transform.{transformed, xors}
use Rattle.values.specs.Values.{decided, Rule, right_values, left_values}
use Rattle.pass_tree.specs.declared.Work.{Work}

-- one step for each value that is computed
abbrev pub work_of : List ℤ → Work
work_of values = record { steps = length values }

-- all that two parts did
abbrev pub plus_work : Work → Work → Work
plus_work a b = record { steps = a.steps + b.steps }

-- the result of a node
pub record Out : Type 0 where
  -- the bits of its indices
  pub bits : List ℕ
  -- the sums for the node above it
  pub sums : List ℕ
  -- the leaf values of the indices that were decided and not forced
  pub leaves : List ℤ
  -- the work done below it
  pub work : Work

-- all bits are forced: nothing is computed
abbrev pub forced : ℕ → List ℕ → Out
forced s p = record { bits = p; sums = transformed s p; leaves = []; work = work_of [] }

-- a leaf whose bit is decided
abbrev pub leaf : Rule → ℤ → Out
leaf rule v = record { bits = decided rule v ∷ []; sums = decided rule v ∷ []; leaves = v ∷ []; work = work_of [] }

-- the left half with its computed values, then the right half with its own
abbrev pub join : ℕ → List ℤ → Out → List ℤ → Out → Out
join h left l right r = record {
  bits = l.bits ++ r.bits;
  sums = xors h l.sums r.sums ++ r.sums;
  leaves = l.leaves ++ r.leaves;
  work = plus_work (plus_work (work_of left) l.work) (plus_work (work_of right) r.work);
}

-- A node at layer s: `p` its forced bits, at most 2^s, from its first index on; `rule` the rule of each of its indices, counted
-- from its first; `v` its 2^s values. If the left half is forced, its node needs no values, and none is computed.
unfoldable pub node : ℕ → List ℕ → (ℕ → Rule) → List ℤ → Out
node zero p rule v = cond (leb 1 (length p)) (forced 0 p) (leaf (rule 0) (get_or v 0 (pos 0)))
node (suc s) p rule v =
    cond (leb (2 ^ suc s) (length p)) (forced (suc s) p)
    (let h = 2 ^ s in
    let left = cond (leb h (length p)) [] (left_values h v) in
    let l = node s (take h p) rule left in
    let right = right_values h v l.sums in
    let r = node s (drop h p) (λ i. rule (h + i)) right in
    join h left l right r)
