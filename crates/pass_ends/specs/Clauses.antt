-- What only contracts below the public operations cite. Nothing here need be believed.
use Rattle.std.specs.Prelude.{List, ℕ, ◌-◌, ◌+◌, get_or, length, take, ◌≡◌, ℤ}
use Rattle.laws.specs.Clauses.{splice, segment}
use Rattle.values.specs.Values.{Rule}
use Rattle.values.specs.Clauses.{rule_of}
use Rattle.pass_tree.specs.declared.Work.{Work}
use Rattle.pass_tree.specs.Node.{Out, node}

-- the rule at index i of an array of rule bytes (`rule_of` of values)
abbrev pub rule_at : List ℕ → ℕ → Rule
rule_at rules i = rule_of (get_or rules i 0)

-- what a node's call leaves: decided bits, sums in place at a node's own indices, and leaf values at the decided indices
pub record Results : Type 0 where
  pub bits : List ℕ
  pub sums : List ℕ
  pub leaves : List ℤ

abbrev pub results : List ℕ → List ℕ → List ℤ → Results
results bits sums leaves = record { bits = bits; sums = sums; leaves = leaves }

-- each of them has `room` entries
pub record Sized (room : ℕ) (r : Results) : Type 0 where
  pub bits : length r.bits ≡ room
  pub sums : length r.sums ≡ room
  pub leaves : length r.leaves ≡ room

-- what a call works on: the values below the root, and results
pub record Arrays : Type 0 where
  pub work : List ℤ
  pub bits : List ℕ
  pub sums : List ℕ
  pub leaves : List ℤ

abbrev pub arrays : List ℤ → List ℕ → List ℕ → List ℤ → Arrays
arrays work bits sums leaves = record { work = work; bits = bits; sums = sums; leaves = leaves }

abbrev pub results_of : Arrays → Results
results_of a = results a.bits a.sums a.leaves

pub record Whole (room : ℕ) (a : Arrays) : Type 0 where
  pub work : length a.work ≡ room
  pub bits : length a.bits ≡ room
  pub sums : length a.sums ≡ room
  pub leaves : length a.leaves ≡ room

-- of the `size` bits from `base` on, those that lie below q
abbrev pub forced_bits : List ℕ → ℕ → ℕ → ℕ → List ℕ
forced_bits bits base size q = take (q - base) (segment bits base size)

-- the rules of the indices from `base` on
abbrev pub rules_from : List ℕ → ℕ → ℕ → Rule
rules_from rules base i = rule_at rules (base + i)

-- what the definition says of a node of `size` values v, whose indices start at `base`, in a pass whose first q bits are forced
abbrev pub node_of : ℕ → ℕ → ℕ → ℕ → List ℕ → List ℕ → List ℤ → Out
node_of layer size base q rules bits v = node layer (forced_bits bits base size q) (rules_from rules base) v

-- o in its place: bits from `base` on, leaf values from `at` on, and the work
pub record Stored (o : Out) (base at : ℕ) (r r' : Results) (done : Work) : Type 0 where
  pub bits : r'.bits ≡ splice r.bits base o.bits
  pub leaves : r'.leaves ≡ splice r.leaves at o.leaves
  pub work : done ≡ o.work

-- the results of a node in their places, its sums among them
pub record StoredSums (o : Out) (base at : ℕ) (r r' : Results) (done : Work) : Type 0 where
  pub stored : Stored o base at r r' done
  pub sums : r'.sums ≡ splice r.sums base o.sums

-- a node of `size` indices from `base` on in its place: its leaf values stand after the indices that are forced. If q is `base` none is forced.
pub record NodeStored (layer size base q : ℕ) (rules : List ℕ) (v : List ℤ) (r r' : Results) (done : Work) : Type 0 where
  pub laid : StoredSums (node_of layer size base q rules r.bits v) base (base + length (forced_bits r.bits base size q)) r r' done
