-- A bit of the mask is the rule's byte.
use Rattle.std.proofs.Common.{arith, ◌≡◌, refl, ap, ◌∙◌, cond, List, ℕ, zero, suc, ◌*◌, ◌<◌, ◌++◌, length, get_or, take, drop, eqb}
use Rattle.std.proofs.lemmas.List.{length-take-le, get_or_append_left, length-append, length-drop}
use Rattle.laws.specs.Table.{table}
use Rattle.laws.proofs.Table.{length-table, get_or-table}
use Rattle.laws.proofs.Filling.{filling_none, filling_more, filling_whole}
use Rattle.bits.specs.Mask.{mask_bit}
use Rattle.bits.proofs.Bitwise.{bit_lt}
use Rattle.values.specs.Values.{frozen, usual, mask_rule}
use Rattle.values.specs.Clauses.{rule_of}
use Rattle.pass.specs.Clauses.{Ruled}
use Rattle.pass.proofs.rules_from.Goals as goal

-- 0 is frozen, 1 the usual decision
rule-of-bit : (b : ℕ) → b < 2 → rule_of b ≡ cond (eqb b 1) usual frozen
unfolding rule_of
rule-of-bit zero l = refl
rule-of-bit (suc zero) l = refl
rule-of-bit (suc (suc b)) l = absurd (omega arith)

ruled : (mask front rest : List ℕ) (n : ℕ) → front ≡ table (mask_bit mask) n → Ruled n (mask_rule mask) (front ++ rest)
ruled mask front rest n e = record { at = λ i l. ap rule_of (bit_at i l) ∙ rule-of-bit (mask_bit mask i) (bit_lt _ _) }
  where
    bit_at : (i : ℕ) → i < n → get_or (front ++ rest) i 0 ≡ mask_bit mask i
    bit_at i l =
        get_or_append_left front rest 0 i (omega (arith, ap length e, length-table (mask_bit mask) n)) ∙ ap (λ (r : List ℕ). get_or r i 0) e ∙ get_or-table (mask_bit mask) n i 0 l

pub loop-i-init : goal.loop-i-init
loop-i-init c = filling_none

pub loop-i-preserved : goal.loop-i-preserved
loop-i-preserved c = filling_more c.loop-i.invariant _ _ c.loop-i-test.true (omega arith) c.mask_bit.ensures

pub returns : goal.returns
returns c =
    let mask = c.args.mask.now in
    let rules = c.args.rules.now in
    let size : ℕ = 8 * length mask in
    let many : length (take size rules) ≡ size = length-take-le size rules (omega arith) in
    let front = filling_whole c.loop-i.invariant c.loop-i-test.false ∙ ap (table (mask_bit mask)) many in (
      ruled mask c.loop-i.rule-items _ size front,
      omega (arith, length-append c.loop-i.rule-items (drop size rules), length-drop size rules, many),
    )
