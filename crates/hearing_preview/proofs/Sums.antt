-- A vector that may be added to the state in a buffer: the sums that are made in a copy of its values, and what decoding makes of them.
use mathlib.Core.Path.{◌≡◌, sym, ap, ap₂, ◌∙◌}
use mathlib.Core.Bool.{true, ◌&&◌}
use mathlib.Core.List.{List, ◌++◌}
use Prim.Native.Nat.{ℕ, ◌+◌, ◌-◌, ◌^◌, ◌≤◌}
use native.Mathlib.Omega.{arith}
use lib.ListN.{length, take, drop, replicate, length-drop, take-append-drop}
use lib.Seq.{length-take-le}
use Rattle.laws.specs.Clauses.{splice, segment}
use Rattle.laws.proofs.Choice.{and_true}
use Rattle.laws.proofs.Table.{length-table}
use Rattle.arrays.specs.Sizes.{largest_n}
use Rattle.arrays.specs.Padded.{all_zero}
use Rattle.arrays.proofs.Sizes.{fits}
use Rattle.arrays.proofs.Zeros.{drop-replicate, length-padded, splice-padded}
use Rattle.code.specs.declared.Code.{Code}
use Rattle.code.specs.Code.{code_length, longest_description}
use Rattle.code.specs.Description.{describe, on_description}
use Rattle.flip_trial.specs.declared.Restart.TheVariants.{AfterFlip}
use Rattle.decoder.specs.Decoder.{single, decoded_as}
use Rattle.hearing.specs.Hearing.{Hearing, combined, clipped_sums, added_to, is_hearing}
use Rattle.hearing.specs.Clauses.{AddPre}
use Rattle.hearing.proofs.Adding.{count_most, zeros-after, channel_size, not_full, add_pre, sums_are}
use Rattle.hearing.proofs.Inside.{sums-inside, heard_hearing}
use Rattle.hearing_state.specs.State.{State, description_of, code_of_state, with_hearing, decoded_held_with}
use Rattle.hearing_state.proofs.States.{code_by_lem, state_is, code-most, is_hearing_lem}
use Rattle.hearing_buffer.specs.Lent.{hearing_size, state_in}
use Rattle.hearing_buffer.proofs.Bytes.{state_at_lem}
use Rattle.hearing_buffer.proofs.InPlace.{code-size}
use Rattle.hearing_preview.specs.Clauses.{MayAdd}
use Rattle.std.specs.Prelude.{Err, Ok}
use Rattle.flip_run.specs.declared.DecodingError.TheVariants.{Refused}
use Rattle.code.specs.Clauses.{Description}

module _ (c : Code) (b channel : List ℕ) (may : MayAdd c b channel) where
  pub size : length b ≡ hearing_size
  size = code-size b c may.code_is

  abbrev s : State
  s = state_in b

  abbrev h : Hearing
  h = s.hearing

  abbrev N : ℕ
  N = code_length c

  pub description-long : length s.description ≡ longest_description
  description-long = ap (λ (t : State). length t.description) (state_at_lem b size) ∙ length-take-le longest_description b (omega (arith, size))

  -- what is held
  pub describes : describe (description_of s) ≡ Ok c
  describes = (state_is s c may.code_is).0

  n_most : c.n ≤ largest_n
  n_most = code-most s c may.code_is

  hears : is_hearing c h ≡ true
  hears = is_hearing_lem s c may.code_is

  values_are : h.values ≡ drop (1 + longest_description) b
  values_are = ap (λ (t : State). t.hearing.values) (state_at_lem b size)

  long : length h.values ≡ 2 ^ largest_n
  long = ap (λ (v : List ℕ). length v) values_are ∙ omega (arith, length-drop (1 + longest_description) b, size)

  pub channel_long : length channel ≡ N
  channel_long = channel_size c h.count channel may.fine

  pub room : N ≤ 2 ^ largest_n
  room = fits n_most

  -- zeros follow the first values, as in a fresh array
  pub copied : splice (replicate (2 ^ largest_n) 0) 0 (segment b (1 + longest_description) (length channel)) ≡ h.values
  copied =
      let first : List ℕ = take N h.values in
      let many : length first ≡ N = length-take-le N h.values (omega (arith, long, room)) in
      let rest : 2 ^ largest_n - length first ≡ length h.values - N = omega (arith, many, long) in
      ap₂ (λ (k : ℕ) (v : List ℕ). splice (replicate (2 ^ largest_n) 0) 0 (take k v)) channel_long (sym values_are)
      ∙ splice-padded (2 ^ largest_n) (replicate (2 ^ largest_n) 0) first (drop-replicate (length first) (2 ^ largest_n) 0)
      ∙ ap (λ (l : List ℕ). first ++ l) (ap (λ (k : ℕ). replicate k 0) rest ∙ sym (zeros-after c h hears))
      ∙ take-append-drop N h.values

  pub may_add : AddPre h.values channel
  may_add = add_pre c h channel n_most long hears may.fine

  -- the sums
  abbrev pub sums : Hearing
  sums = added_to c h channel

  pub sums_made : splice h.values 0 (clipped_sums (length channel) h.values channel) ≡ sums.values
  sums_made = sums_are c h channel n_most long hears may.fine

  pub sums-long : length sums.values ≡ 2 ^ largest_n
  sums-long =
      let many : length (clipped_sums N h.values channel) ≡ N = length-table _ N in
      length-padded (2 ^ largest_n) (clipped_sums N h.values channel) (omega (arith, many, room))

  -- a state holds them
  code-after : code_of_state (with_hearing s sums) ≡ Ok c
  code-after =
      let zeros : all_zero (drop (length (description_of s)) s.description) ≡ true = (and_true _ (is_hearing c h) (state_is s c may.code_is).1).0 in
      let full = not_full c h.count channel may.fine (count_most c h hears) in
      code_by_lem (with_hearing s sums) c true describes
      (ap₂ ◌&&◌ zeros (heard_hearing c (clipped_sums N h.values channel) (sums-inside N h.values channel) h.count full))

  pub decoded_sums : (limit : ℕ) (output : List ℕ)
      → decoded_held_with AfterFlip (with_hearing s sums) limit output ≡ decoded_as (single limit) AfterFlip (description_of s) (combined c sums) output
  decoded_sums limit output =
      ap (λ (a : Description). on_description a (λ x. (Err (Refused x), output)) (λ c. decoded_as (single limit) AfterFlip (description_of s) (combined c sums) output)) code-after
