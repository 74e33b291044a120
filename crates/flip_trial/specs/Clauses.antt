-- What only contracts below the public operations cite. Nothing here need be believed.
use Rattle.std.specs.Prelude.{◌≡◌, cond, List, [], ◌∷◌, ℕ, ◌≤◌, ◌<◌, ◌+◌, ℤ, length, get_or, take, set, eqb}
use Rattle.laws.specs.Clauses.{segment}
use Rattle.laws.specs.First.{first_where}
use Rattle.arrays.specs.Sizes.{largest_n}
use Rattle.bits.specs.Claims.{Bits}
use Rattle.bits.specs.Mask.{mask_bit}
use Rattle.code.specs.declared.Code.{Code}
use Rattle.code.specs.Code.{code_length}
use Rattle.values.specs.Values.{opposite, mask_rule}
use Rattle.values.specs.Claims.{Within}
use Rattle.channel.specs.Channel.{channel_values}
use Rattle.pass_tree.specs.declared.Work.{Work}
use Rattle.pass_tree.specs.Node.{Out, node}
use Rattle.pass_ends.specs.Clauses.{rule_at, Arrays, Whole}
use Rattle.pass.specs.Clauses.{Ruled}
use Rattle.flip_trial.specs.Trial.{first_trial, member, lowest, forced_prefix}

-- the rule of each index of a plain pass, in an array of `room` entries
pub record PlainRules (room : ℕ) (mask : List ℕ) (c : Code) (rules : List ℕ) : Type 0 where
  pub ruled : Ruled (code_length c) (mask_rule mask) rules
  pub whole : length rules ≡ room

-- indices below `size`
pub record Below (size : ℕ) (is : List ℕ) : Type 0 where
  pub at : (a : ℕ) → a < length is → get_or is a 0 < size

-- a list with x stored at each of some indices
abbrev pub set_all : List ℕ → List ℕ → ℕ → List ℕ
set_all w [] x = w
set_all w (i ∷ is) x = set_all (set w i x) is x

-- a later trial by the rules of an array and by trial 1's bits
abbrev pub trial_by : ℕ → List ℕ → List ℕ → Code → List ℤ → List ℕ → Out
trial_by q first rules c v is =
    node c.n (forced_prefix (take (code_length c) first) (lowest is) q) (λ j. cond (member j is) opposite (rule_at rules j)) v

-- a channel of the code's length, and the arrays of a pass
pub record TrialPre (room : ℕ) (c : Code) (channel rules : List ℕ) (a : Arrays) : Type 0 where
  pub n_least : 1 ≤ c.n
  pub n_most : c.n ≤ largest_n
  pub long : length channel ≡ code_length c
  pub small : Within 31 (channel_values channel)
  pub rules_whole : length rules ≡ room
  pub whole : Whole room a

-- indices below N to flip, at least one; where to resume; and bits to begin with
pub record LaterTrialPre (room : ℕ) (c : Code) (q : ℕ) (is first : List ℕ) : Type 0 where
  pub q_most : q ≤ code_length c
  pub some : 0 < length is
  pub below : Below (code_length c) is
  pub bits : Bits (take (code_length c) first)
  pub whole : length first ≡ room

-- the bits of trial 1
pub record FirstBits (room : ℕ) (mask : List ℕ) (c : Code) (channel first : List ℕ) : Type 0 where
  pub bits : take (code_length c) first ≡ (first_trial mask c (channel_values channel)).bits
  pub whole : length first ≡ room

-- a trial's bits, its leaf values from q on, and its work
pub record TrialPost (room : ℕ) (c : Code) (q : ℕ) (o : Out) (a' : Arrays) (done : Work) : Type 0 where
  pub bits : take (code_length c) a'.bits ≡ o.bits
  pub leaves : segment a'.leaves q (length o.leaves) ≡ o.leaves
  pub work : done ≡ o.work
  pub whole : Whole room a'

-- the leaf values of trial 1
pub record FirstLeaves (room : ℕ) (mask : List ℕ) (c : Code) (channel : List ℕ) (leaves : List ℤ) : Type 0 where
  pub values : take (code_length c) leaves ≡ (first_trial mask c (channel_values channel)).leaves
  pub whole : length leaves ≡ room

-- trial 1 is made: the rules of a plain pass, the trial's bits and leaf values, and its work
pub record FirstTrialPost (room : ℕ) (mask : List ℕ) (c : Code) (channel rules : List ℕ) (a' : Arrays) (done : Work) : Type 0 where
  pub plain : PlainRules room mask c rules
  pub bits : FirstBits room mask c channel a'.bits
  pub leaves : FirstLeaves room mask c channel a'.leaves
  pub work : done ≡ (first_trial mask c (channel_values channel)).work
  pub whole : Whole room a'

-- the first information index among j, …, j + m - 1, or j + m
abbrev pub first_from : List ℕ → ℕ → ℕ → ℕ
first_from mask j m = j + first_where (λ k. eqb (mask_bit mask (j + k)) 1) m
