-- `hearing::is_hearing` meets its contract, test by test.
use mathlib.Core.Path.{◌≡◌, sym, ap, ◌∙◌}
use mathlib.Core.Bool.{Bool, ◌&&◌}
use mathlib.Core.List.{List}
use Prim.Native.Nat.{ℕ, ◌^◌, ◌*◌, ◌%◌}
use native.Mathlib.Omega.{arith}
use borrow.Author.Rules.{rules}
use borrow.Author.Tests.{le-leb}
use lib.Dec.{eqb}
use lib.ListN.{drop, take}
use Rattle.laws.proofs.Powers.{one_shl}
use Rattle.arrays.specs.Padded.{all_zero}
use Rattle.arrays.proofs.Sizes.{fits}
use Rattle.channel.specs.Channel.{first_outside}
use Rattle.hearing.specs.Hearing.{is_hearing}
use Rattle.hearing.specs.Clauses.{zero_from, hearing_by}
use Rattle.hearing.proofs.Adding.{from_most}
use Rattle.hearing.proofs.is_hearing.Statement.{statement}
use Rattle.hearing.proofs.is_hearing.Tie as tie

-- N, as it is computed
size : (s : tie.Start) → 1 * 2 ^ s.args.code.n % 2 ^ 64 ≡ 2 ^ s.args.code.n
size s = one_shl s.args.code.n 64 (omega (arith, s.requires.0))

-- the answer, by the first test: the count is a byte
module _ (s : tie.Start) where
  abbrev values : List ℕ
  values = s.args.values.now

  abbrev zeros : ℕ → Bool
  zeros from = all_zero (drop from values)

  abbrev by : Bool → Bool
  by t = t && eqb (first_outside (take (2 ^ s.args.code.n) values)) (2 ^ s.args.code.n)

  counted : by (zeros (zero_from s.args.code s.args.count)) ≡ is_hearing s.args.code (hearing_by s.args.count values)
  counted =
      ap (λ (t : Bool). t && by (zeros (zero_from s.args.code s.args.count))) (sym (le-leb s.args.count 255 (omega arith)))

-- the first test
first : (c : tie.After-is_zero_from) →
    c.is_zero_from.result ≡ zeros c.before.before.before (zero_from c.args.code c.args.count)
first c = c.is_zero_from.ensures ∙ ap (zeros c.before.before.before) c.zero_from.ensures

returns : tie.Need-returns-then-is_zero_from
returns c =
    c.are_inside.ensures ∙ ap (λ (k : ℕ). eqb (first_outside (take k (values c.before.before.before.before.before.before))) k) (size c.before.before.before.before.before.before)
    ∙ ap (by c.before.before.before.before.before.before) (sym c.if-is_zero_from.true ∙ first c.before.before.before) ∙ counted c.before.before.before.before.before.before

returns-2 : tie.Need-returns
returns-2 c = ap (by c.before.before.before.before) (sym c.if-is_zero_from.false ∙ first c.before) ∙ counted c.before.before.before.before

pub is_hearing_spec : {M : Type 1} → statement M
is_hearing_spec =
    tie.close
    (tie.spec
    (λ c κs. search rules)
    (λ c κs.
    let s = c.before.before in
    omega (arith, c.zero_from.ensures, from_most s.args.code s.args.count, fits s.requires.0, s.requires.1))
    (λ c. search rules)
    (λ c. search rules)
    (λ c κs. let s = c.before.before.before.before.before in omega (arith, size s, fits s.requires.0, s.requires.1))
    returns
    returns-2)
