-- The bits of the mask before this one stand in their places.
use Rattle.std.proofs.Common.{length}
use Rattle.laws.proofs.Filling.{Filling}
use Rattle.bits.specs.Mask.{mask_bit}
use Rattle.pass.proofs.rules_from.Given as goal

abbrev pub invariant-loop-i : goal.invariant-loop-i
invariant-loop-i l = Filling (mask_bit l.mask) 0 (length l.initial.rule-items) l.initial.rule-items l.rule-items l.i
