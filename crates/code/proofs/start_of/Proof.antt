-- `code::start_of` meets its contract: if a kind has a start, the slice has its bytes.
use mathlib.Core.Path.{◌≡◌, sym, ap, ◌∙◌}
use mathlib.Core.Bool.{Bool, cond}
use mathlib.Core.List.{List}
use Prim.Native.Nat.{ℕ, ◌+◌}
use native.Mathlib.Omega.{arith}
use borrow.Author.Rules.{rules}
use Rattle.code.specs.Description.{word, has_start, mask_at}
use Rattle.code.proofs.TwoKinds.{fields-there}
use Rattle.code.proofs.start_of.Statement.{statement}
use Rattle.code.proofs.start_of.Tie as tie

module _ (c : tie.After-has_start) where
  abbrev d : List ℕ
  d = c.before.before.before.args.d.now

  test-is : c.has_start.result ≡ has_start (word d 2)
  test-is = c.has_start.ensures ∙ ap has_start c.before.read_word.ensures

-- by what the test says
abbrev by : List ℕ → Bool → ℕ
by d t = cond t (word d 8) 0

read-word-requires-2 : tie.Need-read_word-requires-then-has_start
read-word-requires-2 c κs =
    let h = c.before in
    let ten : mask_at (word (d h) 2) ≡ 10 = ap (λ (t : Bool). 8 + cond t 2 0) (sym (test-is h) ∙ c.if-has_start.true) in
    omega (arith, h.before.before.before.requires)

pub start_of_spec : {M : Type 1} → statement M
start_of_spec =
    tie.close
    (tie.spec
    (λ c κs. omega (arith, fields-there c.before.args.d.now c.before.requires))
    (λ c κs. search rules)
    read-word-requires-2
    (λ c.
    let h = c.before.before in
    c.read_word-then-has_start.ensures ∙ ap (by (d h)) (sym c.before.if-has_start.true ∙ test-is h))
    (λ c. ap (by (d c.before)) (sym c.if-has_start.false ∙ test-is c.before)))
