use Rattle.std.proofs.Common.{◌≡◌, ℕ, ◌+◌, ◌≤◌, get_or, sym, ap₂, ◌∙◌, arith}
use lib.Bits.{bit_xor}
use Rattle.laws.specs.Clauses.{segment}
use Rattle.laws.proofs.Segment.{get_or-segment}
use Rattle.laws.proofs.Filling.{filling_none, filling_more, filling_past, filling_done}
use Rattle.transform.specs.Clauses.{xor_bytes}
use Rattle.transform.proofs.xor_halves.Goals as goal

pub loop-j-init : goal.loop-j-init
loop-j-init c = filling_none

pub loop-j-preserved : goal.loop-j-preserved
loop-j-preserved c =
    let l = c.loop-j in
    let w = c.args.bytes.now in
    let base = c.args.base in
    let h = c.args.h in
    let j = l.j in
    let old : (at : ℕ) → base + j ≤ at + j → get_or l.bytes (at + j) 0 ≡ get_or (segment w at h) j 0 =
    λ at k. filling_past l.invariant (at + j) 0 k ∙ sym (get_or-segment w at h j 0 (omega arith)) in
    filling_more l.invariant (base + j) _ (omega arith) (omega arith)
    (ap₂ bit_xor (old base (omega arith)) (old (base + h) (omega arith)))

pub returns : goal.returns
unfolding xor_bytes
returns c = filling_done c.loop-j.invariant (omega arith) (omega (arith, c.requires.whole, c.requires.fits))
