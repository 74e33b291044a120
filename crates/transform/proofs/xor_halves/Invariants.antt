-- The first half is filled with the exclusive-or of both.
use Rattle.std.proofs.Common.{◌+◌, get_or}
use lib.Bits.{bit_xor}
use Rattle.laws.specs.Clauses.{segment}
use Rattle.laws.proofs.Filling.{Filling}
use Rattle.transform.proofs.xor_halves.Given as goal

abbrev pub invariant-loop-j : goal.invariant-loop-j
invariant-loop-j l =
    let w = l.initial.bytes in
    Filling (λ j. bit_xor (get_or (segment w l.base l.h) j 0) (get_or (segment w (l.base + l.h) l.h) j 0)) l.base l.h w l.bytes l.j
