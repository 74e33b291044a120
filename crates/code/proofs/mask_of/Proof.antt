-- `code::mask_of` meets its contract: a part up to the end is all that is left.
use mathlib.Core.Path.{◌≡◌, ap, ◌∙◌}
use mathlib.Core.List.{List}
use Prim.Native.Nat.{ℕ, ◌≤◌}
use native.Mathlib.Nat.{le_of_eq}
use native.Mathlib.Omega.{arith}
use borrow.Author.Rules.{rules}
use lib.ListN.{length, drop, length-drop}
use lib.Seq.{take_all}
use Rattle.code.specs.Description.{word, mask_at}
use Rattle.code.proofs.TwoKinds.{fields-there}
use Rattle.code.proofs.mask_of.Statement.{statement}
use Rattle.code.proofs.mask_of.Tie as tie

module _ (c : tie.After-mask_at-at) where
  abbrev d : List ℕ
  d = c.before.before.before.args.d.now

  at-is : c.mask_at-at.result ≡ mask_at (word d 2)
  at-is = c.mask_at-at.ensures ∙ ap mask_at c.before.read_word.ensures

  at-fits : c.mask_at-at.result ≤ length d
  at-fits = omega (arith, at-is, c.before.before.before.requires)

pub mask_of_spec : {M : Type 1} → statement M
mask_of_spec =
    tie.close
    (tie.spec
    (λ c κs. omega (arith, fields-there c.before.args.d.now c.before.requires))
    (λ c κs. search rules)
    at-fits
    at-fits
    (λ c. search rules)
    (λ c. take_all _ _ (le_of_eq (length-drop c.before.mask_at-at.result (d c.before))) ∙ ap (λ (at : ℕ). drop at (d c.before)) (at-is c.before)))
