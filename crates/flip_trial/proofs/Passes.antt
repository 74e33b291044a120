-- One trial by a pass on the arrays: trial 1, and a later one by the bits that it begins with and the rules that are stored.
use mathlib.Core.Path.{◌≡◌, refl, sym, ap, ap₂, ◌∙◌, subst}
use mathlib.Core.Bool.{cond}
use mathlib.Core.List.{List, []}
use Prim.Native.Nat.{ℕ, ◌*◌, ◌≤◌, ◌<◌}
use native.Mathlib.Omega.{arith}
use lib.IntN.{ℤ}
use lib.ListN.{length, get_or, take}
use lib.Seq.{get_or-take, length-take-le}
use Rattle.laws.specs.Clauses.{splice, segment}
use Rattle.laws.proofs.Segment.{segment-splice, length-splice}
use Rattle.bits.specs.Claims.{Bits}
use Rattle.code.specs.declared.Code.{Code}
use Rattle.code.specs.Code.{code_length}
use Rattle.values.specs.Values.{Rule, opposite, mask_rule}
use Rattle.channel.specs.Channel.{channel_values}
use Rattle.pass_tree.specs.declared.Work.{Work}
use Rattle.pass_tree.specs.Node.{Out, node}
use Rattle.pass_tree.proofs.Node.{length-bits, length-leaves}
use Rattle.pass_tree.proofs.Restart.{rules_below}
use Rattle.pass_ends.specs.Clauses.{rule_at, Arrays, arrays, Whole}
use Rattle.pass.specs.Clauses.{Ruled, PassPre, pass_of, PassPost}
use Rattle.flip_trial.specs.declared.Restart.{Restart}
use Rattle.flip_trial.specs.Trial.{first_trial, member, flip_rule, lowest, forced_prefix, restart_at, later_trial}
use Rattle.flip_trial.specs.Claims.{trial_from}
use Rattle.flip_trial.specs.Flips.{Flips}
use Rattle.flip_trial.specs.Clauses.{Below, set_all, trial_by, PlainRules, TrialPre, LaterTrialPre, FirstBits, TrialPost, FirstTrialPost}
use Rattle.flip_trial.proofs.Agree.{length-prefix}
use Rattle.flip_trial.proofs.Bounds.{first_bits}
use Rattle.flip_trial.proofs.Flips.{lowest-is}
use Rattle.flip_trial.proofs.Prefix.{length-forced, bits-forced, forced-take}
use Rattle.flip_trial.proofs.Restartable.{restartable}
use Rattle.flip_trial.proofs.Rules.{rule_opposite, plain_again}

-- what a pass leaves, as a trial
trial_post : (c : Code) {room : ℕ} {a a' : Arrays} {done : Work} (p : List ℕ) (rule : ℕ → Rule) (v : List ℤ) → length p ≤ code_length c → code_length c ≤ room → Whole room a → PassPost room (node c.n p rule v) (length p) a a' done → TrialPost room c (length p) (node c.n p rule v) a' done
trial_post c {a = a} p rule v short fits whole post =
    let o : Out = node c.n p rule v in
    record {
      bits =
          ap (take (code_length c)) post.bits
          ∙ segment-splice a.bits 0 o.bits (code_length c) (length-bits c.n p rule v short) (omega (arith, whole.bits));
      leaves =
          ap (λ (w : List ℤ). segment w (length p) (length o.leaves)) post.leaves
          ∙ segment-splice a.leaves (length p) o.leaves (length o.leaves) refl (omega (arith, whole.leaves, length-leaves c.n p rule v short));
      work = post.work;
      whole = post.whole;
    }

-- ---- trial 1

pub first_post : (c : Code) {room : ℕ} {mask channel rules : List ℕ} {a a' : Arrays} {done : Work} → 8 * length mask ≡ code_length c → code_length c ≤ room → Whole room a → Ruled (8 * length mask) (mask_rule mask) rules → length rules ≡ room → PassPost room (pass_of c 0 channel rules a.bits) 0 a a' done → FirstTrialPost room mask c channel rules a' done
first_post c {room} {mask} {channel} {rules} {a} {a'} {done} size fits whole ruled rules_whole post =
    let plain : PlainRules room mask c rules = record { ruled = subst (λ (m : ℕ). Ruled m (mask_rule mask) rules) size ruled; whole = rules_whole } in
    let v : List ℤ = channel_values channel in
    let long : length (first_trial mask c v).leaves ≡ code_length c = omega (arith, length-leaves c.n [] (mask_rule mask) v (omega arith)) in
    let t : TrialPost room c 0 (first_trial mask c v) a' done =
    trial_post c [] (mask_rule mask) v (omega arith) fits whole
    (subst (λ (o : Out). PassPost room o 0 a a' done) (rules_below c.n [] (rule_at rules) (mask_rule mask) v (omega arith) (λ j _ l. plain.ruled.at j l)) post) in
    record {
      plain = plain;
      bits = record { bits = t.bits; whole = post.whole.bits };
      leaves = record { values = ap (λ (m : ℕ). take m a'.leaves) (sym long) ∙ t.leaves; whole = post.whole.leaves };
      work = t.work;
      whole = post.whole;
    }

-- ---- a later trial

module _ {room : ℕ} {c : Code} {q : ℕ} {channel rules is first : List ℕ} {a : Arrays} (on : TrialPre room c channel rules a) (later : LaterTrialPre room c q is first)
    (fits : code_length c ≤ room) where
  abbrev prefix : List ℕ
  prefix = forced_prefix (take (code_length c) first) (lowest is) q

  low : get_or is 0 0 < code_length c
  low = later.below.at 0 later.some

  length-begins : length prefix ≡ q
  length-begins =
      length-forced (take (code_length c) first) (lowest is) q
      (omega (arith, later.q_most, length-take-le (code_length c) first (omega (arith, later.whole))))

  -- the bit that is turned round
  pub first_bit : get_or first (get_or is 0 0) 0 < 2
  first_bit = omega (arith, get_or-take (code_length c) first (get_or is 0 0) 0 low, later.bits.at (get_or is 0 0))

  pub flips_fit : Below room is
  flips_fit = record { at = λ b l. omega (arith, later.below.at b l) }

  -- the bits in their place, and the opposite rule at each flip
  module _ {bits₁ rules₁ : List ℕ} (put : bits₁ ≡ splice a.bits 0 (forced_prefix first (get_or is 0 0) q)) (turned : rules₁ ≡ set_all rules is 3) where
    put_is : forced_prefix first (get_or is 0 0) q ≡ prefix
    put_is =
        sym (forced-take first (get_or is 0 0) q (code_length c) low)
        ∙ ap (λ (i : ℕ). forced_prefix (take (code_length c) first) i q) (sym (lowest-is is))

    length_put : length (forced_prefix first (get_or is 0 0) q) ≡ q
    length_put = ap length put_is ∙ length-begins

    begun : take q bits₁ ≡ prefix
    begun =
        ap (take q) put
        ∙ segment-splice a.bits 0 (forced_prefix first (get_or is 0 0) q) q length_put (omega (arith, later.q_most, on.whole.bits)) ∙ put_is

    whole₁ : Whole room (arrays a.work bits₁ a.sums a.leaves)
    whole₁ = record {
      work = on.whole.work;
      bits =
          ap length put
          ∙ length-splice a.bits 0 (forced_prefix first (get_or is 0 0) q) q length_put (omega (arith, later.q_most, on.whole.bits)) ∙ on.whole.bits;
      sums = on.whole.sums;
      leaves = on.whole.leaves;
    }

    pub pass_pre : PassPre room c q channel (arrays a.work bits₁ a.sums a.leaves)
    pass_pre = record {
      n_least = on.n_least;
      n_most = on.n_most;
      q_most = later.q_most;
      long = on.long;
      small = on.small;
      bits = subst Bits (sym begun) (bits-forced (take (code_length c) first) (lowest is) q later.bits);
      whole = whole₁;
    }

    short : length prefix ≤ code_length c
    short = omega (arith, length-begins, later.q_most)

    pass-is : pass_of c q channel rules₁ bits₁ ≡ trial_by q first rules c (channel_values channel) is
    pass-is =
        ap₂ (λ (p r : List ℕ). node c.n p (rule_at r) (channel_values channel)) begun turned
        ∙ rules_below c.n prefix (rule_at (set_all rules is 3)) (λ j. cond (member j is) opposite (rule_at rules j)) (channel_values channel) short
        (λ j _ _. rule_opposite rules is (subst (λ (k : ℕ). Below k is) (sym on.rules_whole) flips_fit) j)

    pub later_post : {a' : Arrays} {done : Work} → PassPost room (pass_of c q channel rules₁ bits₁) q (arrays a.work bits₁ a.sums a.leaves) a' done → TrialPost room c q (trial_by q first rules c (channel_values channel) is) a' done
    later_post {a'} {done} post =
        let o : Out = trial_by q first rules c (channel_values channel) is in
        let a₁ : Arrays = arrays a.work bits₁ a.sums a.leaves in
        let post' : PassPost room o q a₁ a' done = subst (λ (x : Out). PassPost room x q a₁ a' done) pass-is post in
        subst (λ (k : ℕ). TrialPost room c k o a' done) length-begins
        (trial_post c prefix (λ j. cond (member j is) opposite (rule_at rules j)) (channel_values channel) short fits whole₁
        (subst (λ (k : ℕ). PassPost room o k a₁ a' done) (sym length-begins) post'))

-- by the rules of a mask and trial 1's bits it is the later trial under that mask
pub trial-is : {room : ℕ} {mask : List ℕ} {c : Code} {channel first rules : List ℕ} → PlainRules room mask c rules → FirstBits room mask c channel first → (q : ℕ) → q ≤ code_length c → (is : List ℕ) → trial_by q first rules c (channel_values channel) is ≡ trial_from q mask c (channel_values channel) is
trial-is {mask = mask} {c} {channel} {first} {rules} plain one q l is =
    let v : List ℤ = channel_values channel in
    let rule : ℕ → Rule = λ j. cond (member j is) opposite (rule_at rules j) in
    ap (λ (b : List ℕ). node c.n (forced_prefix b (lowest is) q) rule v) one.bits
    ∙ rules_below c.n (forced_prefix (first_trial mask c v).bits (lowest is) q) rule (flip_rule mask is) v (omega (arith, length-prefix mask c v is q l))
    (λ j _ m. ap (λ (r : Rule). cond (member j is) opposite r) (plain.ruled.at j m))

-- by the rules of a mask and trial 1's bits, with any restart: what a later trial asks, and what it leaves
module _ {room : ℕ} {mask : List ℕ} {c : Code} {channel first rules : List ℕ} {is : List ℕ} {q : ℕ} (plain : PlainRules room mask c rules) (one : FirstBits room mask c channel first)
    (flips : Flips mask (code_length c) is) (restart : Restart) (size : 8 * length mask ≡ code_length c) (at : q ≡ restart_at restart mask (8 * length mask) (get_or is 0 0)) where
  pub q_is : q ≡ restart_at restart mask (code_length c) (lowest is)
  q_is = at ∙ ap₂ (λ (m i : ℕ). restart_at restart mask m i) size (sym (lowest-is is))

  pub q_most : q ≤ code_length c
  q_most = subst (λ (k : ℕ). k ≤ code_length c) (sym q_is) (restartable flips restart).most

  pub later_pre : LaterTrialPre room c q is first
  later_pre = record {
    q_most = q_most;
    some = flips.some;
    below = record { at = flips.below };
    bits = subst Bits (sym one.bits) (first_bits mask c (channel_values channel));
    whole = one.whole;
  }

  pub later_made : {a' : Arrays} {done : Work} → TrialPost room c q (trial_by q first rules c (channel_values channel) is) a' done → TrialPost room c (restart_at restart mask (code_length c) (lowest is)) (later_trial restart mask c (channel_values channel) is) a' done
  later_made {a'} {done} t =
      subst (λ (k : ℕ). TrialPost room c k (trial_from k mask c (channel_values channel) is) a' done) q_is
      (subst (λ (o : Out). TrialPost room c q o a' done) (trial-is plain one q q_most is) t)

  pub plain_after : {rules' : List ℕ} → rules' ≡ set_all rules is 1 → code_length c ≤ room → PlainRules room mask c rules'
  plain_after e fits = subst (PlainRules room mask c) (sym e) (plain_again plain flips fits)
