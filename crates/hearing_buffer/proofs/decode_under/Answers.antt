-- `hearing_buffer::decode_under` meets its contract.
use Rattle.std.proofs.Common.{◌≡◌, sym, ap, ◌∙◌, arith, List, ℕ, get_or, take, Ok}
use Rattle.arrays.proofs.Sizes.{fits}
use Rattle.code.specs.declared.Code.{Code}
use Rattle.code.specs.Code.{longest_description}
use Rattle.code.specs.Description.{describe}
use Rattle.code.specs.Record.{record_in}
use Rattle.code.proofs.Facts.{described}
use Rattle.decoder.specs.Decoder.{single, decoded_as}
use Rattle.hearing.specs.Hearing.{combined}
use Rattle.hearing_state.specs.State.{State, description_of, code_of_state}
use Rattle.hearing_state.specs.Clauses.{state_by}
use Rattle.hearing_state.proofs.States.{state_is}
use Rattle.hearing_buffer.specs.Lent.{state_in}
use Rattle.hearing_buffer.proofs.InPlace.{code-size, part, parts, state_parts}
use Rattle.hearing_buffer.proofs.decode_under.Goals as goal

pub slice_bounds-decode_values-end : goal.slice_bounds-decode_values-end
slice_bounds-decode_values-end c = sym (parts c.args.buffer.now (code-size c.args.buffer.now c.args.code c.requires)).description_size

pub slice_bounds-decode_values-count : goal.slice_bounds-decode_values-count
slice_bounds-decode_values-count c = omega (arith, code-size c.args.buffer.now c.args.code c.requires)

pub slice_bounds-decode_values-start : goal.slice_bounds-decode_values-start
slice_bounds-decode_values-start c = omega (arith, code-size c.args.buffer.now c.args.code c.requires)

-- the description of the state is lent as it stands at the front
describes : (b : List ℕ) (c : Code) → code_of_state (state_in b) ≡ Ok c → describe (record_in (take longest_description b)) ≡ Ok c
describes b c e =
    let size = code-size b c e in
    (state_is (state_by (take longest_description b) (get_or b longest_description 0) (part b size)) c (ap code_of_state (state_parts b size) ∙ e)).0

pub decode_values-requires : goal.decode_values-requires
decode_values-requires c =
    let b = c.args.buffer.now in
    let p = parts b (code-size b c.args.code c.requires) in
    let d = describes b c.args.code c.requires in
    record {
      field = omega (arith, p.description_size);
      describes = d;
      room = omega (arith, p.values_size, fits (described _ _ d).coded.n_most);
    }

pub returns : goal.returns
returns c =
    let x = c.args in
    let b = x.buffer.now in
    c.decode_values.ensures
    ∙ ap (λ (t : State). decoded_as (single x.terms.limit) x.terms.restart (description_of t) (combined x.code t.hearing) x.output.now) (state_parts b (code-size b x.code c.requires))
