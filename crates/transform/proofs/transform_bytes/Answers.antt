use Rattle.std.proofs.Common.{ℕ, get_or, sym, ap, ◌∙◌, arith}
use Rattle.std.proofs.lemmas.List.{get_or-take}
use Rattle.laws.proofs.Segment.{put_mid-splice}
use Rattle.laws.proofs.Table.{length-table, table_from}
use Rattle.transform.specs.Clauses.{transformed_byte}
use Rattle.transform.proofs.transform_bytes.Goals as goal

pub returns : goal.returns
returns c =
    let w = c.args.bytes.now in
    let size = c.args.size in
    let f : ℕ → ℕ = λ m. transformed_byte (get_or w m 0) in
    put_mid-splice w c.loop-byte.byte-items _ 0 size
    (table_from f size 0 _ (omega (arith, c.requires.whole, c.requires.fits)) (λ k l. c.loop-byte.invariant.made k (omega (arith, c.requires.whole, c.requires.fits)) ∙ ap transformed_byte (get_or-take size w k 0 l)))
    (sym (length-table f size))
