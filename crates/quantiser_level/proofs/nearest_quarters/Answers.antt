-- The shift loses no bit, and the rest is `quarters-bits`.
use Rattle.std.proofs.Common.{◌≡◌, ℕ, ◌%◌, T, sym, ap, ◌∙◌, subst, arith}
use Rattle.quantiser_level.specs.Level.{nearest}
use Rattle.quantiser_level.proofs.Pattern.{shifted, shifted_lt, quarters-bits}
use Rattle.quantiser_level.proofs.nearest_quarters.Goals as goal

pub rounded-requires : goal.rounded-requires
rounded-requires c = omega (arith, shifted_lt c.clamp-bits.result (omega arith))

pub returns : goal.returns
returns c =
    let v = shifted c.clamp-bits.result in
    let whole : v % 0x1_0000_0000 ≡ v = omega (arith, shifted_lt c.clamp-bits.result (omega arith)) in
    c.rounded.ensures ∙ ap (λ (x : ℕ). nearest x 0x200_0000) (whole ∙ ap shifted c.clamp-bits.ensures)
    ∙ quarters-bits c.args.p (subst T (sym c.well_formed.0.1) tt) c.requires
