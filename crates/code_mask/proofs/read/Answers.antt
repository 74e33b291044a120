-- `code_mask::read` meets its contract: an accepted description has a mask of its code.
use Rattle.std.proofs.Common.{sym, ◌∙◌, subst, List, ℕ}
use Rattle.code.specs.Claims.{Coded}
use Rattle.code.proofs.Facts.{described}
use Rattle.code_mask.proofs.read.Goals as goal

pub mask_of-mask-requires : goal.mask_of-mask-requires
mask_of-mask-requires c = (described c.args.d.now _ (sym c.read_description.ensures ∙ c.in_ok-code.was)).header

pub invariant_of-result : goal.invariant_of-result
invariant_of-result c = record {
  coded =
      subst (λ (mask : List ℕ). Coded mask c.in_ok-code.code) (sym c.mask_of-mask.ensures)
      (described c.args.d.now _ (sym c.read_description.ensures ∙ c.in_ok-code.was)).coded;
}
