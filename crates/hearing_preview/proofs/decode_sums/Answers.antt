-- `hearing_preview::decode_sums` meets its contract: the array holds the values, and then the sums.
use Rattle.std.proofs.Common.{◌≡◌, sym, ap, ap₂, ◌∙◌, subst, arith, List, ℕ, length, take, length-take-le}
use Rattle.laws.specs.Clauses.{splice}
use Rattle.code.specs.declared.Code.{Code}
use Rattle.code.specs.Code.{code_length, longest_description}
use Rattle.code.specs.Description.{describe}
use Rattle.code.specs.Record.{record_in}
use Rattle.flip_trial.specs.declared.Restart.TheVariants.{AfterFlip}
use Rattle.decoder.specs.Decoder.{single, decoded_as}
use Rattle.hearing.specs.Hearing.{clipped_sums, added_to}
use Rattle.hearing.specs.Clauses.{AddPre}
use Rattle.hearing_state.specs.State.{State, description_of}
use Rattle.hearing_buffer.specs.Lent.{hearing_size, state_in}
use Rattle.hearing_buffer.proofs.Bytes.{state_at_lem}
use Rattle.hearing_preview.specs.Clauses.{MayAdd}
use Rattle.hearing_preview.proofs.Sums as sums
use Rattle.hearing_preview.proofs.decode_sums.Goals as goal

-- the description, as it is lent
module _ (b : List ℕ) (size : length b ≡ hearing_size) where
  part-long : length (take longest_description b) ≡ longest_description
  part-long = length-take-le longest_description b (omega (arith, size))

  record_is : record_in (take longest_description b) ≡ description_of (state_in b)
  record_is = ap (λ (t : State). description_of t) (sym (state_at_lem b size))

pub copy-requires : goal.copy-requires
copy-requires c =
    let x = c.args in
    let b = x.buffer.now in
    let size = sums.size x.code b x.channel.now c.requires in
    let long = sums.channel_long x.code b x.channel.now c.requires in
    let room = sums.room x.code b x.channel.now c.requires in
    (omega arith, omega arith)

-- the values, and then the sums
pub add_values-requires : goal.add_values-requires
add_values-requires c =
    let x = c.args in
    subst (λ (l : List ℕ). AddPre l x.channel.now) (sym (c.copy.ensures ∙ sums.copied x.code x.buffer.now x.channel.now c.requires))
    (sums.may_add x.code x.buffer.now x.channel.now c.requires)

pub slice_bounds-decode_values-end : goal.slice_bounds-decode_values-end
slice_bounds-decode_values-end c = sym (part-long c.args.buffer.now (sums.size c.args.code c.args.buffer.now c.args.channel.now c.requires))

made : (code : Code) (b channel copied summed : List ℕ) (may : MayAdd code b channel)
    → copied ≡ (state_in b).hearing.values → summed ≡ splice copied 0 (clipped_sums (length channel) copied channel)
    → summed ≡ (added_to code (state_in b).hearing channel).values
made code b channel copied summed may e f =
    f ∙ ap (λ (v : List ℕ). splice v 0 (clipped_sums (length channel) v channel)) e ∙ sums.sums_made code b channel may

pub decode_values-requires : goal.decode_values-requires
decode_values-requires c =
    let x = c.args in
    let b = x.buffer.now in
    let channel = x.channel.now in
    let size = sums.size x.code b channel c.requires in
    let long =
    ap (λ (l : List ℕ). length l) (made x.code b channel _ _ c.requires (c.copy.ensures ∙ sums.copied x.code b channel c.requires) c.add_values.ensures)
    ∙ sums.sums-long x.code b channel c.requires in
    record {
      field = omega (arith, part-long b size);
      describes = ap describe (record_is b size) ∙ sums.describes x.code b channel c.requires;
      room = omega (arith, long, sums.room x.code b channel c.requires);
    }

pub returns : goal.returns
returns c =
    let x = c.args in
    let b = x.buffer.now in
    let channel = x.channel.now in
    let size = sums.size x.code b channel c.requires in
    c.decode_values.ensures
    ∙ ap₂ (λ (l v : List ℕ). decoded_as (single x.limit) AfterFlip l (take (code_length x.code) v) x.output.now) (record_is b size)
    (made x.code b channel _ _ c.requires (c.copy.ensures ∙ sums.copied x.code b channel c.requires) c.add_values.ensures)
    ∙ sym (sums.decoded_sums x.code b channel c.requires x.limit x.output.now)
