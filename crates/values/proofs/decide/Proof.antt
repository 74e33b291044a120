-- `values::decide` meets its contract, by the four cases of the rule's two bits.
use mathlib.Core.Path.{◌≡◌, sym, ap, ap₂, ◌∙◌}
use mathlib.Core.Bool.{cond}
use Prim.Native.Nat.{ℕ, ◌+◌, ◌*◌, ◌/◌, ◌%◌, ◌<◌}
use native.Mathlib.Nat.{div-one}
use native.Mathlib.Omega.{arith}
use borrow.Author.Rules.{rules}
use lib.Bits.{bit_and, bit_xor, and_mask}
use lib.Dec.{eqb}
use lib.IntN.{ℤ}
use mir.Syntax.{w32}
use Rattle.laws.proofs.Signed.{back_is}
use Rattle.bits.specs.Bit.{bit}
use Rattle.bits.proofs.Bitwise.{bit_lt, two_bits, xor-bits, and_bits}
use Rattle.values.specs.Values.{decided, frozen, usual, opposite, hard}
use Rattle.values.specs.Clauses.{rule_of}
use Rattle.values.proofs.Signs.{hard_lt}
use Rattle.values.proofs.decide.Statement.{statement}
use Rattle.values.proofs.decide.Tie as tie

by_bits : (v : ℤ) (a b : ℕ) → a < 2 → b < 2 → a * ((hard v + b) % 2) ≡ decided (cond (eqb a 0) frozen (cond (eqb b 0) usual opposite)) v
by_bits v = two_bits (λ a b. a * ((hard v + b) % 2) ≡ decided (cond (eqb a 0) frozen (cond (eqb b 0) usual opposite)) v)
    (omega arith) (omega arith) (omega (arith, hard_lt v)) (omega (arith, hard_lt v))

returns : tie.Need-returns
unfolding rule_of
returns c =
    let rule = c.before.args.rule in
    let v = c.before.args.value in
    let a : bit_and rule 1 ≡ bit rule 0 = and_mask rule 1 ∙ ap (λ (x : ℕ). x % 2) (sym (div-one rule)) in
    let b : bit_and (rule / 2) 1 ≡ bit rule 1 = and_mask (rule / 2) 1 in
    let x : bit_xor c.hard.result (bit_and (rule / 2) 1) ≡ (hard v + bit rule 1) % 2 =
    ap₂ bit_xor (c.hard.ensures ∙ ap hard (back_is w32 v c.before.ranges.value)) b ∙ xor-bits (hard v) (bit rule 1) (hard_lt v) (bit_lt rule 1) in
    ap₂ bit_and a x ∙ and_bits (bit rule 0) ((hard v + bit rule 1) % 2) (bit_lt rule 0) (omega arith)
    ∙ by_bits v (bit rule 0) (bit rule 1) (bit_lt rule 0) (bit_lt rule 1)

pub decide_spec : {M : Type 1} → statement M
decide_spec = tie.close (tie.spec (λ c κs. search rules) returns)
