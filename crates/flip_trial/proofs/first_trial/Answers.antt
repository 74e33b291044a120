-- The trial is made, by `first_post` of proofs/Passes.antt.
use Rattle.std.proofs.Common.{arith}
use Rattle.arrays.proofs.Sizes.{fits}
use Rattle.flip_trial.proofs.Passes.{first_post}
use Rattle.flip_trial.proofs.first_trial.Goals as goal

pub rules_from-requires : goal.rules_from-requires
rules_from-requires c = (omega (arith, c.requires.1, fits c.requires.0.n_most), c.requires.2)

pub returns : goal.returns
returns c =
    let e = c.rules_from.ensures in
    first_post c.args.code c.requires.1 (fits c.requires.0.n_most) c.requires.0.whole e.0 e.1 c.pass.ensures
