use Rattle.std.proofs.Common.{◌≡◌, ℕ, suc, ◌+◌, length, refl, ap, ap₂, sym, ◌∙◌, arith}
use Rattle.std.proofs.Math.Numerals.{add-one}
use lib.Ieee.{Float, of_bits}
use Rattle.laws.proofs.Filling.{filling_none, filling_more, filling_whole}
use Rattle.quantiser_level.specs.declared.Level.{Level}
use Rattle.quantiser.specs.Quantise.{product, bytes, larger, peak_of, clipped_of}
use Rattle.quantiser.proofs.Numbers.{admitted-number}
use Rattle.quantiser.proofs.Totals.{clipped_le}
use Rattle.quantiser.proofs.fill.Goals as goal
use Rattle.quantiser.proofs.fill.Goals.{After-quantise_one-level}

pub loop-i-init : goal.loop-i-init
unfolding peak_of clipped_of of_bits
loop-i-init c = (filling_none, refl, refl)

-- each product that is made is a number
pub quantise_one-level-requires : goal.quantise_one-level-requires
quantise_one-level-requires c = admitted-number c.requires c.loop-i.i (omega arith)

-- the count of one more product
counted : (c : After-quantise_one-level) → c.loop-i.clipped + c.quantise_one-level.result.clipped ≡ clipped_of (product c.args.scale c.args.samples.now) (suc c.loop-i.i)
unfolding clipped_of
counted c = ap₂ (λ (x y : ℕ). x + y) c.loop-i.invariant.2 (ap (λ (x : Level). x.clipped) c.quantise_one-level.ensures)

pub overflow_add-clipped : goal.overflow_add-clipped
overflow_add-clipped c =
    let p : ℕ → Float = product c.args.scale c.args.samples.now in
    omega (arith, counted (goal.at.overflow_add-clipped c).After-quantise_one-level, clipped_le p (suc c.loop-i.i))

pub loop-i-preserved : goal.loop-i-preserved
unfolding peak_of
loop-i-preserved c =
    let k = c.loop-i in
    let e = c.quantise_one-level.ensures in (
      filling_more k.invariant.0 k.i c.quantise_one-level.result.byte (omega arith) (omega arith) (ap (λ (x : Level). x.byte) e),
      rw add-one (c.larger_of-peak.ensures ∙ ap₂ larger k.invariant.1 (ap (λ (x : Level). x.magnitude) e)),
      rw add-one (counted (goal.at.loop-i-preserved c).After-quantise_one-level),
    )

pub returns : goal.returns
returns c =
    let k = c.loop-i in
    let p : ℕ → Float = product c.args.scale c.args.samples.now in
    let e : k.i ≡ length c.args.samples.now = omega arith in
    let written = filling_whole k.invariant.0 (omega arith) ∙ ap (bytes p) (sym c.requires.same_length) in
    rw (k.invariant.1, k.invariant.2, e, written)
