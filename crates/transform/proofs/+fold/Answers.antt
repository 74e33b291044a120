-- The array is folded half by half.
use Rattle.std.proofs.Common.{refl}
use Rattle.transform.proofs.Halves.{single, halving, halving_pair, left-bytes, right-next, both_halves, combined}
use Rattle.transform.proofs.+fold.Goals as goal

pub returns-then-single : goal.returns-then-single
returns-then-single t c = single c.if-single.true c.requires.1

pub returns-then-layer-eq1 : goal.returns-then-layer-eq1
returns-then-layer-eq1 t c =
    let p = c.requires.1 in
    let d = halving_pair c.if-layer-eq1.true c.requires.0 in
    combined d p (both_halves d p (single refl (left-bytes d p)) (single refl (right-next d p (single refl (left-bytes d p))))) c.xor_halves.ensures

pub returns : goal.returns
returns t c =
    let p = c.requires.1 in
    let d = halving c.if-single.false c.requires.0 in
    combined d p (both_halves d p c.fold.ensures c.fold-2.ensures) c.xor_halves-2.ensures
