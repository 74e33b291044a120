-- The flipped indices have the opposite rule during the pass, and the usual one after it.
use Rattle.std.proofs.Common.{◌∙◌, sym, ap, List, ℕ, length, arith, subst}
use Rattle.arrays.proofs.Sizes.{fits}
use Rattle.flip_trial.specs.Clauses.{Below, set_all}
use Rattle.flip_trial.proofs.Passes.{first_bit, flips_fit, pass_pre, later_post}
use Rattle.flip_trial.proofs.Rules.{length-set_all, set_again}
use Rattle.flip_trial.proofs.later_trial.Goals as goal

pub put_prefix-requires : goal.put_prefix-requires
put_prefix-requires c =
    let on = c.requires.0 in
    let later = c.requires.1 in
    let room = fits on.n_most in
    ((flips_fit on later room).at 0 later.some, omega (arith, later.q_most, room), first_bit on later room, later.whole, on.whole.bits)

pub set_rules-requires : goal.set_rules-requires
set_rules-requires c = (flips_fit c.requires.0 c.requires.1 (fits c.requires.0.n_most), c.requires.0.rules_whole)

pub pass-done-requires : goal.pass-done-requires
pass-done-requires c = pass_pre c.requires.0 c.requires.1 (fits c.requires.0.n_most) c.put_prefix.ensures c.set_rules.ensures

pub set_rules-requires-2 : goal.set_rules-requires-2
set_rules-requires-2 c = (
  flips_fit c.requires.0 c.requires.1 (fits c.requires.0.n_most),
  ap length c.set_rules.ensures ∙ length-set_all c.args.rules.now c.args.flips.now 3 ∙ c.requires.0.rules_whole,
)

pub returns : goal.returns
returns c =
    let on = c.requires.0 in
    let room = fits on.n_most in
    let rules = c.args.rules.now in
    let flips = c.args.flips.now in
    let below = flips_fit on c.requires.1 room in (
      later_post on c.requires.1 room c.put_prefix.ensures c.set_rules.ensures c.pass-done.ensures,
      c.set_rules-2.ensures ∙ ap (λ (w : List ℕ). set_all w flips 1) c.set_rules.ensures
          ∙ set_again rules flips (subst (λ (k : ℕ). Below k flips) (sym on.rules_whole) below) 3 1,
    )
