use Rattle.std.proofs.Common.{◌≡◌, ℕ, ◌+◌, ℤ, pos, List, get_or, refl, add-one, arith}
use Rattle.std.specs.Int.{int_min}
use Rattle.std.proofs.lemmas.Grind.{common_steps}
use Rattle.std.proofs.lemmas.List.{get_or-take}
use Rattle.std.proofs.lemmas.Int.{to_z-of_z}
use Rattle.flip_order.specs.Clauses.{above, least_above}
use Rattle.flip_order.proofs.next_key.Goals as goal

-- one key more
more : (last : ℤ) (keys : List ℤ) (n : ℕ) (best : ℤ) → best ≡ least_above last keys n → int_min best (above last (get_or keys n (pos 0))) ≡ least_above last keys (n + 1)
unfolding least_above
more last keys n best h = rw (add-one, h)

pub loop-key-init : goal.loop-key-init
unfolding least_above
loop-key-init c = refl

pub loop-key-preserved : goal.loop-key-preserved
loop-key-preserved c = grind (arith, common_steps, to_z-of_z, get_or-take, more)
