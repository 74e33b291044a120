-- The bytes so far are zero exactly if no bit was found.
use Rattle.std.proofs.Common.{◌≡◌, take, eqb}
use Rattle.std.specs.List.{list_all}
use Rattle.arrays.proofs.is_zero_from.Given as goal

abbrev pub invariant-loop-byte : goal.invariant-loop-byte
invariant-loop-byte l = eqb l.any 0 ≡ list_all (λ x. eqb x 0) (take l.byte-index l.byte-items)
