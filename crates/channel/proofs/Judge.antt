-- Refusals 12 and 13 apply exactly if the channel has another length than the code, or a value lies outside −31..31.
use mathlib.Core.Path.{◌≡◌, ◌∙◌}
use mathlib.Core.List.{List}
use Prim.Native.Nat.{ℕ}
use native.Mathlib.Omega.{arith}
use borrow.Author.Tests.{ltb-false, le-ltb}
use lib.ListN.{length}
use Rattle.refusal.specs.Judge.{judge}
use Rattle.refusal.proofs.Judge.{judge-none, judge_no, judge-past}
use Rattle.refusal.proofs.Tests.{differs-past, differs_no}
use Rattle.code.specs.declared.Code.{Code}
use Rattle.code.specs.Code.{code_length}
use Rattle.channel.specs.Channel.{first_outside, channel_refusals}
use Rattle.channel.proofs.Outside.{first_outside_le}
use Rattle.std.specs.Prelude.{Ok}

module _ (c : Code) (channel : List ℕ) where
  pub channel_fine : length channel ≡ code_length c → first_outside channel ≡ length channel → judge (channel_refusals c channel) ≡ Ok tt
  channel_fine long inside =
      judge_no _ _ _ (differs_no (length channel) (code_length c) long)
      ∙ judge_no _ _ _ (le-ltb (first_outside channel) (length channel) (omega arith)) ∙ judge-none

  pub fine_channel : judge (channel_refusals c channel) ≡ Ok tt → (length channel ≡ code_length c) × (first_outside channel ≡ length channel)
  fine_channel e =
      let s12 = judge-past _ _ _ e in
      let s13 = judge-past _ _ _ s12.1 in (
        differs-past (length channel) (code_length c) s12.0,
        omega (arith, ltb-false (first_outside channel) (length channel) s13.0, first_outside_le channel),
      )
