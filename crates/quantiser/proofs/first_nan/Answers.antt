use Rattle.std.proofs.Common.{◌≡◌, true, false, ◌∙◌, rules, tests}
use Rattle.std.proofs.lemmas.Iterator.{IsFirst-from_position, YieldsList-from_slice}
use lib.Ieee.{Float, nan, is_nan}
use Rattle.laws.proofs.First.{position_first}
use Rattle.quantiser.proofs.first_nan.Goals as goal

pub returns : goal.returns
returns c =
    let samples = c.args.samples.now in
    c.unwrap_or.ensures
    ∙ position_first is_nan nan samples c.position.result
    (IsFirst-from_position _ _ _ (λ (y : Float). is_nan y ≡ true) (λ (y : Float). is_nan y ≡ false) c.position.ensures.ran
    (YieldsList-from_slice samples cc) (λ x q k. search (rules, tests)) (λ x q k. search (rules, tests)))
