-- `hearing_state::decode_values` meets its contract: the decoder under the code of the description.
use Rattle.std.proofs.Common.{sym, ap, ap₂, ◌∙◌, subst, arith, List, ℕ, ◌≤◌, length, take}
use Rattle.laws.proofs.Powers.{one_shl}
use Rattle.code.specs.Code.{code_length}
use Rattle.code.specs.Description.{word, mask_at, mask_of}
use Rattle.code.specs.Record.{record_in}
use Rattle.code.specs.Claims.{Coded}
use Rattle.code.proofs.Facts.{described}
use Rattle.decoder.specs.Decoder.{single, decoded_under}
use Rattle.decoder.proofs.Decoder.{under-code}
use Rattle.hearing_state.proofs.decode_values.Goals as goal

pub overflow_shl-size : goal.overflow_shl-size
overflow_shl-size c = omega (arith, (described _ _ c.requires.describes).coded.n_most)

pub mask_of-requires : goal.mask_of-requires
mask_of-requires c =
    subst (λ (d : List ℕ). mask_at (word d 2) ≤ length d) (sym c.record_in.ensures) (described _ _ c.requires.describes).header

pub decode_by-requires : goal.decode_by-requires
decode_by-requires c =
    subst (λ (mask : List ℕ). Coded mask c.args.code) (sym (c.mask_of.ensures ∙ ap mask_of c.record_in.ensures))
    (described _ _ c.requires.describes).coded

pub returns : goal.returns
returns c =
    let x = c.args in
    let d : List ℕ = record_in x.bytes.now in
    let p = single x.terms.limit in
    c.decode_by.ensures
    ∙ ap₂ (λ (mask : List ℕ) (size : ℕ). decoded_under p x.terms.restart mask x.code (take size x.values.now) x.output.now)
    (c.mask_of.ensures ∙ ap mask_of c.record_in.ensures) (one_shl x.code.n 64 (omega (arith, (described d x.code c.requires.describes).coded.n_most)))
    ∙ sym (under-code p x.terms.restart d (take (code_length x.code) x.values.now) x.output.now x.code c.requires.describes)
