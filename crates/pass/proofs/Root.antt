-- A whole pass, call by call: the root is a node whose indices start at 0 and whose values are the channel's.
use mathlib.Core.Path.{◌≡◌, refl, sym, ap, ap₂, ◌∙◌, subst}
use mathlib.Core.List.{List, []}
use Prim.Native.Nat.{ℕ, ◌+◌, ◌-◌, ◌/◌, ◌^◌, ◌≤◌, ◌<◌}
use native.Mathlib.Nat.{zero-add}
use native.Mathlib.Omega.{arith}
use lib.Dec.{leb}
use lib.IntN.{ℤ}
use lib.ListN.{length, take, length-map}
use lib.Pow.{pow_pos}
use lib.Seq.{take-take, length-take-le}
use Rattle.laws.specs.Clauses.{splice, segment}
use Rattle.laws.proofs.Segment.{splice-nil, splice-segment}
use Rattle.arrays.specs.Sizes.{largest_n}
use Rattle.bits.specs.Claims.{Bits}
use Rattle.code.specs.declared.Code.{Code}
use Rattle.code.specs.Code.{code_length}
use Rattle.transform.proofs.Halves.{Halving, halving}
use Rattle.arrays.specs.Claims.{longest}
use Rattle.arrays.proofs.Sizes.{fits}
use Rattle.values.specs.Values.{Rule, right_values, left_values}
use Rattle.values.proofs.Bounds.{within_more}
use Rattle.channel.specs.Channel.{channel_value, channel_values}
use Rattle.pass_tree.specs.declared.Work.{Work}
use Rattle.pass_tree.specs.Node.{work_of, plus_work, Out, node}
use Rattle.pass_tree.specs.Clauses.{computed_unless}
use Rattle.pass_tree.proofs.Node.{node-forced}
use Rattle.pass_halves.specs.Clauses.{ValuesPre, ValuesPost}
use Rattle.pass_ends.specs.Clauses.{rule_at, Arrays, arrays, forced_bits, node_of}
use Rattle.pass.specs.Clauses.{NodePre, NodePost, PassPre, pass_of, PassPost}
use Rattle.pass.proofs.Recursion.{left_at, whole₂, whole₄, right-at, stored, left_few, right_few}

module _ {room q : ℕ} {c : Code} {channel : List ℕ} {a : Arrays} (rules : List ℕ) (p : PassPre room c q channel a) (fits : code_length c ≤ room) where
  abbrev o : Out
  o = pass_of c q channel rules a.bits

  -- the bits forced at the root
  forced_at_root : forced_bits a.bits 0 (length channel) q ≡ take q a.bits
  forced_at_root =
      let e : q - 0 ≡ q = omega arith in
      ap (λ (k : ℕ). take k (take (length channel) a.bits)) e ∙ take-take q (length channel) a.bits (omega (arith, p.q_most, p.long))

  prefix-long : length (take q a.bits) ≡ q
  prefix-long = length-take-le q a.bits (omega (arith, p.q_most, p.whole.bits))

  -- if all are forced nothing is done
  pub pass-forced : {done : Work} → length channel ≤ q → done ≡ work_of [] → PassPost room o q a a done
  pass-forced {done} l of =
      subst (λ (x : Out). PassPost room x q a a done)
      (sym (node-forced c.n (take q a.bits) (rule_at rules) (channel_values channel) (omega (arith, prefix-long, p.long))))
      (record {
        bits = sym (splice-segment a.bits 0 q (omega (arith, p.q_most, p.whole.bits)));
        leaves = sym (splice-nil a.leaves q);
        work = of;
        whole = p.whole;
      })

  root-on : NodePre room c.n (length channel) 0 q a (channel_values channel)
  root-on = record {
    pow = p.long;
    deep = p.n_most;
    fits = omega (arith, p.long);
    whole = p.whole;
    bits = subst Bits (sym forced_at_root) p.bits;
    small = λ _. within_more (omega (arith, pow_pos (largest_n - c.n))) p.small;
  }

  root_is : node_of c.n (length channel) 0 q rules a.bits (channel_values channel) ≡ o
  root_is =
      ap₂ (λ (f : List ℕ) (r : ℕ → Rule). node c.n f r (channel_values channel)) forced_at_root (λ t i. rule_at rules (zero-add i t))

-- the root's two halves, if not all bits are forced
pub record Rooted (room q m h : ℕ) (c : Code) (channel : List ℕ) (a : Arrays) : Type 0 where
  pub pre : PassPre room c q channel a
  pub fits : code_length c ≤ room
  pub halving : Halving c.n (length channel) m h
  pub less : q < length channel

pub rooted : {q : ℕ} {c : Code} {channel : List ℕ} {a : Arrays} → PassPre longest c q channel a → q < length channel → Rooted longest q (c.n - 1) (length channel / 2) c channel a
rooted p less = record { pre = p; fits = fits p.n_most; halving = halving (λ z. omega (arith, p.n_least)) p.long; less = less }

module _ {room q m h : ℕ} {c : Code} {channel : List ℕ} {a : Arrays} (rules : List ℕ) (t : Rooted room q m h c channel a) where
  abbrev d : Halving c.n (length channel) m h
  d = t.halving

  on : NodePre room c.n (length channel) 0 q a (channel_values channel)
  on = root-on rules t.pre t.fits

  more : q < 0 + length channel
  more = omega (arith, t.less)

  pub root-half : h + h ≤ room
  root-half = omega (arith, d.two, t.pre.long, t.fits)

  root_with : {work : List ℤ} → length work ≡ room → ValuesPre room (λ w. channel_values channel) h work
  root_with whole = record {
    whole = whole;
    fits = root-half;
    long = length-map channel channel_value ∙ d.two;
    small = within_more (omega arith) t.pre.small;
    apart = λ later e. refl;
  }

  pub root-at : ValuesPre room (λ w. channel_values channel) h a.work
  root-at = root_with t.pre.whole.work

  module _ {w₁ : List ℤ} {done₁ : Work} (e₁ : ValuesPost (computed_unless (leb h q) (left_values h (channel_values channel))) h a.work w₁ done₁) where
    c₁ : ValuesPost (computed_unless (leb (0 + h) q) (left_values h (channel_values channel))) h a.work w₁ done₁
    c₁ = subst (λ (k : ℕ). ValuesPost (computed_unless (leb k q) (left_values h (channel_values channel))) h a.work w₁ done₁) (sym (zero-add h)) e₁

    abbrev a₁ : Arrays
    a₁ = arrays w₁ a.bits a.sums a.leaves

    pub root-left : NodePre room m h 0 q a₁ (segment w₁ h h)
    root-left = left_at rules d on more c₁

    module _ {a₂ : Arrays} {done₂ : Work} (c₂ : NodePost m h 0 q rules (segment w₁ h h) a₁ a₂ done₂) where
      pub root_again : ValuesPre room (λ w. channel_values channel) h a₂.work
      root_again = root_with (whole₂ rules d on more c₁ c₂).work

      module _ {w₃ : List ℤ} {done₃ : Work} (c₃ : ValuesPost (right_values h (channel_values channel) (segment a₂.sums 0 h)) h a₂.work w₃ done₃) where
        abbrev a₃ : Arrays
        a₃ = arrays w₃ a₂.bits a₂.sums a₂.leaves

        pub root-right : NodePre room m h h q a₃ (segment w₃ h h)
        root-right = subst (λ (b : ℕ). NodePre room m h b q a₃ (segment w₃ h h)) (zero-add h) (right-at rules d on more c₁ c₂ c₃)

        module _ {a₄ : Arrays} {done₄ : Work} (e₄ : NodePost m h h q rules (segment w₃ h h) a₃ a₄ done₄) where
          c₄ : NodePost m h (0 + h) q rules (segment w₃ h h) a₃ a₄ done₄
          c₄ = subst (λ (b : ℕ). NodePost m h b q rules (segment w₃ h h) a₃ a₄ done₄) (sym (zero-add h)) e₄

          pub root_few : (done₁.steps + done₂.steps < 2 ^ 31) × (done₃.steps + done₄.steps < 2 ^ 31)
          root_few = (left_few rules d on more c₁ c₂ c₃ c₄, right_few rules d on more c₁ c₂ c₃ c₄)

          pub passed : {done : Work} → done ≡ plus_work (plus_work done₁ done₂) (plus_work done₃ done₄) → PassPost room (pass_of c q channel rules a.bits) q a a₄ done
          passed total =
              let r = stored rules d on more c₁ c₂ c₃ c₄ total in
              let is = root_is rules t.pre t.fits in
              let start : 0 + length (forced_bits a.bits 0 (length channel) q) ≡ q =
              zero-add _ ∙ ap length (forced_at_root rules t.pre t.fits) ∙ prefix-long rules t.pre t.fits in
              record {
                bits = r.bits ∙ ap (λ (x : Out). splice a.bits 0 x.bits) is;
                leaves = r.leaves ∙ ap₂ (λ (k : ℕ) (x : Out). splice a.leaves k x.leaves) start is;
                work = r.work ∙ ap (λ (x : Out). x.work) is;
                whole = whole₄ rules d on more c₁ c₂ c₃ c₄;
              }
