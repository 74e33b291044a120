-- `hearing_state::ends_in_zeros` meets its contract.
use mathlib.Core.Path.{ap, ◌∙◌}
use mathlib.Core.List.{List}
use Prim.Native.Nat.{ℕ}
use native.Mathlib.Omega.{arith}
use borrow.Author.Rules.{rules}
use lib.ListN.{length, drop, length-take}
use Rattle.arrays.specs.Padded.{all_zero}
use Rattle.code.specs.Description.{word}
use Rattle.hearing_state.proofs.ends_in_zeros.Statement.{statement}
use Rattle.hearing_state.proofs.ends_in_zeros.Tie as tie

pub ends_in_zeros_spec : {M : Type 1} → statement M
ends_in_zeros_spec =
    tie.close
    (tie.spec
    (λ c κs. search rules)
    (λ c κs.
    let bytes = c.before.before.args.bytes.now in
    omega (arith, ap (λ (l : List ℕ). length l) c.record_in.ensures, length-take (word bytes 0) bytes))
    (λ c.
    let bytes = c.before.before.before.args.bytes.now in
    c.is_zero_from.ensures ∙ ap (λ (l : List ℕ). all_zero (drop (length l) bytes)) c.before.record_in.ensures))
