-- The trials on the terms of a run are those of a decoder by single flips.
use mathlib.Core.Path.{◌≡◌, sym, ap, ◌∙◌}
use mathlib.Core.List.{List, [], ◌∷◌, map, map-map}
use Prim.Native.Nat.{ℕ, ◌-◌}
use lib.IntN.{ℤ}
use lib.ListN.{take}
use Rattle.laws.proofs.Segment.{take-map}
use Rattle.code.specs.declared.Code.{Code}
use Rattle.pass_tree.specs.Node.{Out}
use Rattle.flip_trial.specs.Trial.{first_trial, later_trial}
use Rattle.flip_run.specs.declared.Terms.{Terms}
use Rattle.flip_run.specs.Trials.{flip_order}
use Rattle.flip_run.specs.Clauses.{trials}
use Rattle.decoder.specs.Decoder.{single, trials_of}

pub trials_are : (terms : Terms) (mask : List ℕ) (c : Code) (v : List ℤ) → trials terms mask c v ≡ trials_of (single terms.limit) terms.restart mask c v
trials_are terms mask c v =
    let alone : ℕ → List ℕ = λ i. i ∷ [] in
    let later : List ℕ → Out = later_trial terms.restart mask c v in
    let order : List ℕ = flip_order mask c v in
    ap (λ (os : List Out). first_trial mask c v ∷ os)
    (sym (ap (map later) (take-map alone (terms.limit - 1) order) ∙ map-map later alone (take (terms.limit - 1) order)))
