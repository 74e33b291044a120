-- `code::read_code` meets its contract: refusal 8, or the numbers of the fields.
use mathlib.Core.Path.{◌≡◌, sym, ap, ◌∙◌, subst}
use mathlib.Core.List.{List}
use Prim.Native.Nat.{ℕ, ◌+◌, ◌^◌, ◌≤◌, ◌<◌}
use native.Mathlib.Omega.{arith}
use borrow.Author.Rules.{rules}
use borrow.Author.Tests.{le-ltb, lt-ltb}
use lib.ListN.{length, get_or}
use Rattle.refusal.proofs.Judge.{at_test, past-test, past_all}
use Rattle.arrays.specs.Claims.{longest}
use Rattle.arrays.proofs.Sizes.{fits}
use Rattle.bits.specs.Mask.{ones_in}
use Rattle.code.specs.Description.{mask_of}
use Rattle.code.proofs.Facts.{mask_size}
use Rattle.code.proofs.TwoKinds.{fields-there}
use Rattle.code.proofs.read_code.Statement.{statement}
use Rattle.code.proofs.read_code.Tie as tie

ones-requires : tie.Need-ones-count-requires
ones-requires c κs =
    let s = c.before.before.before in
    let top : 2 ^ get_or s.args.d.now 4 0 ≤ longest = fits s.requires.n_most in
    omega (arith, ap length c.mask_of.ensures, mask_size s.requires)

module _ (c : tie.After-ones-count) where
  abbrev d : List ℕ
  d = c.before.before.before.before.args.d.now

  count_is : c.ones-count.result ≡ ones_in (mask_of d)
  count_is = c.ones-count.ensures ∙ ap ones_in c.before.mask_of.ensures

returns : tie.Need-returns-then-count-r
returns c =
    let o = c.before in
    at_test _ _ _ _ _ (lt-ltb _ _ (subst (λ (x : ℕ). x < get_or (d o) 5 0 + 1) (count_is o) c.if-count-r.true))

returns-2 : tie.Need-returns
returns-2 c =
    let e = c.before.before.before.before in
    let o = e.before in
    rw (c.before.read_word.ensures, c.start_of.ensures, count_is o)
    (sym (past-test _ _ _ _ _ (le-ltb _ _ (subst (λ (x : ℕ). get_or (d o) 5 0 + 1 ≤ x) (count_is o) e.if-count-r.false)) ∙ past_all _ _))

pub read_code_spec : {M : Type 1} → statement M
read_code_spec =
    tie.close
    (tie.spec
    (λ c. omega (arith, fields-there c.before.before.args.d.now c.before.before.requires.header))
    (λ c. omega (arith, c.shared_slice_known-2-1.given 5))
    (λ c κs. c.before.before.requires.header)
    ones-requires
    (λ c. omega (arith, c.before.before.shared_slice_known-2-1.given 5))
    returns
    (λ c. omega (arith, fields-there c.before.before.before.before.before.before.args.d.now c.before.before.before.before.before.before.requires.header))
    (λ c. search rules)
    (λ c. omega (arith, fields-there c.before.before.before.before.before.before.before.args.d.now c.before.before.before.before.before.before.before.requires.header))
    (λ c. omega (arith, c.shared_slice_known-4-1.given 5))
    (λ c κs. omega (arith, fields-there c.before.before.before.before.before.before.before.args.d.now c.before.before.before.before.before.before.before.requires.header))
    (λ c κs. c.before.before.before.before.before.before.before.before.requires.header)
    (λ c. search rules)
    returns-2)
