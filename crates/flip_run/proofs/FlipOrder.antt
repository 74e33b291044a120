-- The order of flipped indices on channel values v: sorted, and exactly the information indices, each once.
use mathlib.Core.Path.{◌≡◌, sym, ap, ◌∙◌}
use mathlib.Core.List.{List, [], ◌∷◌}
use Prim.Native.Nat.{ℕ, ◌<◌}
use lib.IntN.{ℤ}
use lib.ListN.{length, get_or}
use Rattle.bits.specs.Mask.{ones_below}
use Rattle.code.specs.declared.Code.{Code}
use Rattle.code.specs.Code.{code_length, information_count}
use Rattle.code.specs.Claims.{Coded}
use Rattle.flip_order.specs.Claims.{Sorted, ListsInformation}
use Rattle.flip_order.proofs.Order.{ordered-information}
use Rattle.flip_trial.specs.Trial.{first_trial}
use Rattle.flip_trial.specs.Flips.{Flips}
use Rattle.flip_trial.proofs.Flips.{flips_one}
use Rattle.flip_run.specs.Trials.{flip_order}

pub flip_order_lem : (mask : List ℕ) (c : Code) (v : List ℤ) → Sorted (first_trial mask c v).leaves (flip_order mask c v) × ListsInformation mask (code_length c) (flip_order mask c v)
flip_order_lem mask c v = ordered-information (first_trial mask c v).leaves mask (code_length c)

-- each can be flipped alone
pub order_flips : (mask : List ℕ) (c : Code) (v : List ℤ) (a : ℕ) → a < length (flip_order mask c v) → Flips mask (code_length c) (get_or (flip_order mask c v) a 0 ∷ [])
order_flips mask c v a l = let h = (flip_order_lem mask c v).1.each a l in flips_one h.0 h.1

-- as many indices can be flipped as the code has information indices
pub length_order : {mask : List ℕ} {c : Code} → Coded mask c → (v : List ℤ) → length (flip_order mask c v) ≡ information_count c
length_order {mask} {c} coded v = (flip_order_lem mask c v).1.many ∙ ap (ones_below mask) (sym coded.mask_size) ∙ coded.K_is
