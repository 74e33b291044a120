-- What only contracts below the public operations cite. Nothing here need be believed.
use Rattle.std.specs.Prelude.{List, ℕ, ◌<◌, ◌^◌, ◌+◌, ◌≤◌, length, take, drop, ◌≡◌, ℤ}
use Rattle.laws.specs.Clauses.{splice}
use Rattle.arrays.specs.Sizes.{largest_n}
use Rattle.bits.specs.Claims.{Bits}
use Rattle.code.specs.declared.Code.{Code}
use Rattle.code.specs.Code.{code_length}
use Rattle.values.specs.Values.{Rule}
use Rattle.values.specs.Claims.{Within}
use Rattle.channel.specs.Channel.{channel_values}
use Rattle.pass_tree.specs.Claims.{most}
use Rattle.pass_tree.specs.declared.Work.{Work}
use Rattle.pass_tree.specs.Node.{Out, node}
use Rattle.pass_ends.specs.Clauses.{rule_at, Arrays, results_of, Whole, forced_bits, NodeStored}

-- the bytes say the given rules, for the first n indices
pub record Ruled (n : ℕ) (rule : ℕ → Rule) (rules : List ℕ) : Type 0 where
  pub at : (i : ℕ) → i < n → rule_at rules i ≡ rule i

-- a node that is worked on in the arrays
pub record NodePre (room layer size base q : ℕ) (a : Arrays) (v : List ℤ) : Type 0 where
  pub pow : size ≡ 2 ^ layer
  pub deep : layer ≤ largest_n
  pub fits : base + size ≤ room
  pub whole : Whole room a
  pub bits : Bits (forced_bits a.bits base size q)
  pub small : q < base + size → Within (most largest_n layer) v

-- its results, with all values above its own left as they were
pub record NodePost (layer size base q : ℕ) (rules : List ℕ) (v : List ℤ) (a a' : Arrays) (done : Work) : Type 0 where
  pub node : NodeStored layer size base q rules v (results_of a) (results_of a') done
  pub kept : drop size a'.work ≡ drop size a.work
  pub whole : length a'.work ≡ length a.work

-- a pass on a code's channel values whose first q bits are forced
pub record PassPre (room : ℕ) (c : Code) (q : ℕ) (channel : List ℕ) (a : Arrays) : Type 0 where
  pub n_least : 1 ≤ c.n
  pub n_most : c.n ≤ largest_n
  pub q_most : q ≤ code_length c
  pub long : length channel ≡ code_length c
  pub small : Within 31 (channel_values channel)
  pub bits : Bits (take q a.bits)
  pub whole : Whole room a

-- the pass over the channel's values whose first q bits are forced
abbrev pub pass_of : Code → ℕ → List ℕ → List ℕ → List ℕ → Out
pass_of c q channel rules bits = node c.n (take q bits) (rule_at rules) (channel_values channel)

-- its bits from the first on, its leaf values from index q on, and its work
pub record PassPost (room : ℕ) (o : Out) (q : ℕ) (a a' : Arrays) (done : Work) : Type 0 where
  pub bits : a'.bits ≡ splice a.bits 0 o.bits
  pub leaves : a'.leaves ≡ splice a.leaves q o.leaves
  pub work : done ≡ o.work
  pub whole : Whole room a'
