-- Resume: a prefix that is not bad is bits, and the pass on arrays that were filled for it.
use mathlib.Core.Path.{◌≡◌, refl, sym, ap, ◌∙◌, subst}
use mathlib.Core.Bool.{Bool, true, false}
use mathlib.Core.List.{List}
use Prim.Native.Nat.{ℕ, ◌+◌, ◌*◌, ◌≤◌, ◌<◌}
use native.Mathlib.Omega.{arith}
use borrow.Author.Tests.{ltb-true, ltb-false}
use lib.Dec.{ltb}
use lib.IntN.{ℤ}
use lib.ListN.{length, take, get_or, get_or-eq_default}
use lib.Seq.{take_all}
use Rattle.laws.specs.Clauses.{splice}
use Rattle.laws.proofs.Choice.{or_false}
use Rattle.laws.proofs.First.{first-before}
use Rattle.laws.proofs.Segment.{segment-splice, length-splice, splice-whole}
use Rattle.bits.specs.Claims.{Bits}
use Rattle.bits.specs.Mask.{mask_bit}
use Rattle.code.specs.declared.Code.{Code}
use Rattle.code.specs.Code.{code_length}
use Rattle.code.specs.Claims.{Coded}
use Rattle.values.specs.Values.{mask_rule}
use Rattle.channel.specs.Channel.{channel_values}
use Rattle.channel.proofs.Outside.{all-inside}
use Rattle.pass_tree.specs.declared.Work.{Work}
use Rattle.pass_tree.specs.Node.{Out, node}
use Rattle.pass_tree.proofs.Node.{length-bits}
use Rattle.pass_tree.proofs.Restart.{rules_below}
use Rattle.pass_ends.specs.Clauses.{rule_at, Arrays, arrays}
use Rattle.pass.specs.Clauses.{Ruled, PassPre, pass_of, PassPost}
use Rattle.pass_resume.specs.Resume.{first_bad}
use Rattle.pass_resume.specs.Clauses.{bad_bit, resume_pass}
use Rattle.pass_resume.specs.Claims.{WellFormed}

-- no byte of the prefix is bad
all-bits : (mask prefix : List ℕ) → length prefix ≤ first_bad mask prefix → Bits prefix
all-bits mask prefix l = record { at = λ k. go k (ltb k (length prefix)) refl }
  where
    go : (k : ℕ) (t : Bool) → ltb k (length prefix) ≡ t → get_or prefix k 0 < 2
    go k true e =
        let fine = or_false _ _ (first-before (λ i. bad_bit (get_or prefix i 0) (mask_bit mask i)) (length prefix) k (omega (arith, ltb-true k (length prefix) e))) in
        omega (arith, ltb-false 1 (get_or prefix k 0) fine.0)
    go k false e = omega (arith, get_or-eq_default prefix 0 (ltb-false k (length prefix) e))

-- the prefix was copied into an array of bits, and the mask's rules stand in an array of rules
module _ {room : ℕ} {mask channel prefix output rules : List ℕ} {c : Code} (bits₀ : List ℕ) (coded : Coded mask c) (w : WellFormed mask c channel prefix output) (ruled : Ruled (8 * length mask) (mask_rule mask) rules) (fits : code_length c ≤ room) (whole : length bits₀ ≡ room) {bits₁ : List ℕ} (copied : bits₁ ≡ splice bits₀ 0 (take (length prefix) prefix)) where
  abbrev q : ℕ
  q = length prefix

  filled : bits₁ ≡ splice bits₀ 0 prefix
  filled = copied ∙ ap (splice bits₀ 0) (take_all q prefix (omega arith))

  room-prefix : 0 + q ≤ length bits₀
  room-prefix = omega (arith, w.prefix_size)

  prefix_in : take q bits₁ ≡ prefix
  prefix_in = ap (take q) filled ∙ segment-splice bits₀ 0 prefix q refl room-prefix

  bits-whole : length bits₁ ≡ room
  bits-whole = ap length filled ∙ length-splice bits₀ 0 prefix q refl room-prefix ∙ whole

  pub resume_on : {work leaves : List ℤ} {sums : List ℕ} → length work ≡ room → length sums ≡ room → length leaves ≡ room → PassPre room c q channel (arrays work bits₁ sums leaves)
  resume_on worked s l = record {
    n_least = omega (arith, coded.n_least);
    n_most = coded.n_most;
    q_most = w.prefix_size;
    long = w.channel_size;
    small = all-inside channel (omega (arith, w.in_range));
    bits = subst Bits (sym prefix_in) (all-bits mask prefix (omega (arith, w.prefix_good)));
    whole = record { work = worked; bits = bits-whole; sums = s; leaves = l };
  }

  pass-is : pass_of c q channel rules bits₁ ≡ resume_pass mask c channel prefix
  pass-is =
      ap (λ (p : List ℕ). node c.n p (rule_at rules) (channel_values channel)) prefix_in
      ∙ rules_below c.n prefix (rule_at rules) (mask_rule mask) (channel_values channel) w.prefix_size (λ i _ l. ruled.at i (omega (arith, coded.mask_size)))

  module _ {work leaves : List ℤ} {sums : List ℕ} {a' : Arrays} {done : Work} (p : PassPost room (pass_of c q channel rules bits₁) q (arrays work bits₁ sums leaves) a' done) where
    pub resume_work : done ≡ (resume_pass mask c channel prefix).work
    resume_work = p.work ∙ ap (λ (o : Out). o.work) pass-is

    -- the bits, copied to the output
    pub resume_bits : splice output 0 (take (length channel) a'.bits) ≡ (resume_pass mask c channel prefix).bits
    resume_bits =
        let o : Out = resume_pass mask c channel prefix in
        let long : length o.bits ≡ length channel = length-bits c.n prefix (mask_rule mask) (channel_values channel) w.prefix_size ∙ sym w.channel_size in
        let is : take (length channel) a'.bits ≡ o.bits =
        ap (take (length channel)) (p.bits ∙ ap (λ (x : Out). splice bits₁ 0 x.bits) pass-is)
        ∙ segment-splice bits₁ 0 o.bits (length channel) long (omega (arith, bits-whole, w.channel_size)) in
        ap (splice output 0) is ∙ splice-whole output o.bits (omega (arith, long, w.channel_size, w.output_size))
