-- `pass_ends::rebuild` meets its contract.
use mathlib.Core.Path.{◌≡◌, sym, ap, ap₂, ◌∙◌}
use mathlib.Core.List.{List}
use Prim.Native.Nat.{ℕ, ◌^◌}
use native.Mathlib.Omega.{arith}
use borrow.Author.Rules.{rules}
use lib.ListN.{length}
use Rattle.laws.specs.Clauses.{splice, segment}
use Rattle.laws.proofs.Segment.{length-segment, segment-splice, splice-twice}
use Rattle.transform.specs.Transform.{transformed}
use Rattle.transform.specs.Clauses.{BitsAt}
use Rattle.transform.proofs.BitsAt.{bits_at_splice}
use Rattle.transform.proofs.Transformed.{length-transformed}
use Rattle.pass_ends.proofs.rebuild.Statement.{statement}
use Rattle.pass_ends.proofs.rebuild.Tie as tie

module _ (layer : ℕ) (sums : List ℕ) {room size base : ℕ} {bits sums₁ : List ℕ} (pow : size ≡ 2 ^ layer) (p : BitsAt room bits base size) (whole : length sums ≡ room) (e : sums₁ ≡ splice sums base (segment bits base size)) where
  long : length (segment bits base size) ≡ size
  long = length-segment bits base size (omega (arith, p.whole, p.fits))

  copied : BitsAt room sums₁ base size
  copied = bits_at_splice sums base (segment bits base size) e long whole p.fits p.bits

  rebuilt : {sums₂ : List ℕ} → sums₂ ≡ splice sums₁ base (transformed layer (segment sums₁ base size)) → sums₂ ≡ splice sums base (transformed layer (segment bits base size))
  rebuilt e₂ =
      let fits = p.fits in
      e₂
      ∙ ap₂ (λ (a b : List ℕ). splice a base (transformed layer b)) e
      (ap (λ (a : List ℕ). segment a base size) e ∙ segment-splice sums base (segment bits base size) size long (omega arith))
      ∙ splice-twice sums base (segment bits base size) (transformed layer (segment bits base size)) size long (length-transformed layer (segment bits base size) ∙ sym pow) (omega arith)

transform-requires : tie.Need-transform-requires
transform-requires c κs =
    let s = c.before.before.before.before in
    (s.requires.0, copied s.args.layer s.args.sums.now s.requires.0 s.requires.1 s.requires.2 c.copy.ensures)

returns : tie.Need-returns
returns c =
    rebuilt c.args.layer c.args.sums.now c.requires.0 c.requires.1 c.requires.2 c.copy.ensures c.transform.ensures

pub rebuild_spec : {M : Type 1} → statement M
rebuild_spec = tie.close (tie.spec (λ c κs. search rules) transform-requires returns)
