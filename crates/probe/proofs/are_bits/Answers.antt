use Rattle.std.proofs.Common.{◌≡◌, ℕ, ◌&&◌, List, [], ◌∷◌, refl, ap, ◌∙◌, rules, tests, ltb}
use Rattle.std.specs.List.{list_all}
use Rattle.std.proofs.lemmas.Iterator.{YieldsList-from_slice}
use Rattle.std.proofs.lemmas.Iterator.Search.{all_from_yields_List}
use Rattle.probe.specs.Clauses.{all_bits}
use Rattle.probe.proofs.are_bits.Goals as goal

-- the test is the one that `all` makes
listed : (xs : List ℕ) → list_all (λ x. ltb x 2) xs ≡ all_bits xs
listed [] = refl
listed (x ∷ xs) = ap (λ t. ltb x 2 && t) (listed xs)

pub returns : goal.returns
returns c =
    let xs = c.args.bits.now in
    all_from_yields_List (λ x. ltb x 2) _ _ _ c.all.ensures.ran (YieldsList-from_slice xs cc) (λ x b q k. search (rules, tests)) ∙ listed xs
