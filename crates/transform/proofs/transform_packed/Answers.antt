-- Each byte is transformed, then all of them are folded.
use mathlib.Core.Path.{◌≡◌, sym, ap, ap₂, ◌∙◌}
use mathlib.Core.List.{List}
use Prim.Native.Nat.{ℕ, ◌+◌, ◌*◌, ◌^◌, ◌≤◌}
use native.Mathlib.Nat.{zero-add}
use native.Mathlib.Omega.{arith}
use lib.ListN.{length, get_or}
use Rattle.laws.specs.Table.{table}
use Rattle.laws.specs.Clauses.{splice, segment}
use Rattle.laws.proofs.Segment.{get_or-segment, segment-splice, splice-twice}
use Rattle.laws.proofs.Table.{length-table, table_ext}
use Rattle.bits.specs.Packing.{packed, unpacked}
use Rattle.transform.specs.Transform.{transformed}
use Rattle.transform.specs.Clauses.{BytesAt, transformed_byte, folded}
use Rattle.transform.proofs.Folded.{length-folded}
use Rattle.transform.proofs.Packed.{folded-packed}
use Rattle.transform.proofs.transform_packed.Goals as goal

module _ {room size : ℕ} {w w₁ : List ℕ} (layer : ℕ) (pow : size ≡ 2 ^ layer) (p : BytesAt room w 0 size) (e : w₁ ≡ splice w 0 (table (λ m. transformed_byte (get_or w m 0)) size)) where
  abbrev bytes : List ℕ
  bytes = table (λ m. transformed_byte (get_or w m 0)) size

  inside : 0 + size ≤ length w
  inside = omega (arith, p.whole, p.fits)

  -- the bytes that are transformed are the segment's
  of-segment : bytes ≡ table (λ m. transformed_byte (get_or (segment w 0 size) m 0)) size
  of-segment = table_ext _ _ size (λ m l. ap transformed_byte (ap (λ (k : ℕ). get_or w k 0) (sym (zero-add m)) ∙ sym (get_or-segment w 0 size m 0 l)))

  then-folded : {w₂ : List ℕ} → w₂ ≡ splice w₁ 0 (folded layer (segment w₁ 0 size)) → w₂ ≡ splice w 0 (packed (transformed (layer + 3) (unpacked (segment w 0 size) (8 * size))))
  then-folded e₂ =
      let v : List ℕ = segment w 0 size in
      e₂ ∙ ap₂ (λ (x s : List ℕ). splice x 0 (folded layer s)) e (ap (λ (x : List ℕ). segment x 0 size) e ∙ segment-splice w 0 bytes size (length-table _ size) inside)
      ∙ splice-twice w 0 bytes (folded layer bytes) size (length-table _ size) (length-folded layer bytes (length-table _ size ∙ pow) ∙ sym pow) inside
      ∙ ap (λ (x : List ℕ). splice w 0 (folded layer x)) (of-segment ∙ ap (table (λ m. transformed_byte (get_or v m 0))) pow)
      ∙ ap (splice w 0) (folded-packed layer v)
      ∙ ap (λ (k : ℕ). splice w 0 (packed (transformed (layer + 3) (unpacked v (8 * k))))) (sym pow)

pub returns : goal.returns
returns c =
    then-folded c.args.layer c.requires.0 c.requires.1 c.transform_bytes.ensures c.fold.ensures
