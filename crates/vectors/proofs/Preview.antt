-- Document 02, request 2.7: of two weak hearings the first is held and the second is tried, from the theorems, whose premises are met.
use mathlib.Core.Path.{◌≡◌, refl, sym, ap, ◌∙◌, subst}
use mathlib.Core.List.{List, [], ◌∷◌}
use Prim.Native.Nat.{ℕ, ◌≤◌}
use lib.ListN.{length, replicate}
use Rattle.laws.specs.First.{first_where}
use Rattle.refusal.specs.Judge.{judge, refused_or}
use Rattle.channel.specs.Channel.{channel_value}
use Rattle.flip_trial.specs.declared.Restart.TheVariants.{AfterFlip}
use Rattle.decoder.proofs.Examples.{wide_d, wide_code, vector}
use Rattle.decoder_demands.proofs.Instances.{describes}
use Rattle.hearing.specs.Hearing.{add_refusals}
use Rattle.hearing_state.specs.State.{State, opened, added}
use Rattle.hearing_buffer.specs.Lent.{hearing_size, opened_in}
use Rattle.hearing_demands.specs.Repeats.{Call, add, clear, after, accepted_in, buffer_after}
use Rattle.hearing_demands.specs.Claims.{Bounds}
use Rattle.hearing_demands.proofs.HeldAfter.{held-bounds}
use Rattle.hearing_preview.specs.Preview.{previewed_in}
use Rattle.hearing_preview.specs.Claims.{previewed, Previews}
use Rattle.hearing_preview.proofs.After.{preview_after, preview_in_after}
use Rattle.vectors.proofs.Hearing.{first_v, second_v, both_decode}
use Rattle.std.specs.Prelude.{Err, Ok}
use Rattle.flip_run.specs.Trials.{tally}
use Rattle.refusal.specs.declared.Refusal.TheVariants.{ChannelLength, ChannelValue, HearingFull}
use Rattle.flip_run.specs.declared.DecodingError.TheVariants.{Refused}

-- another frame is heard and cleared; then the first hearing
abbrev pub calls : List Call
calls = add vector ∷ clear ∷ add first_v ∷ []

abbrev pub heard_once : State
heard_once = after (opened wide_d).1 calls

first-accepted : accepted_in wide_code [] calls ≡ first_v ∷ []
unfolding first_where judge refused_or channel_value
first-accepted = refl

previews : (channel : List ℕ) → Previews wide_d wide_code heard_once (first_v ∷ []) channel
previews channel =
    subst (λ (vectors : List (List ℕ)). Previews wide_d wide_code heard_once vectors channel) first-accepted (preview_after wide_d wide_code calls channel describes)

second_fine : judge (add_refusals wide_code 1 second_v) ≡ Ok tt
unfolding first_where judge channel_value
second_fine = refl

-- with it two vectors are held
both-accepted : accepted_in wide_code [] (add vector ∷ clear ∷ add first_v ∷ add second_v ∷ []) ≡ first_v ∷ second_v ∷ []
unfolding first_where judge refused_or channel_value
both-accepted = refl

in_bounds : Bounds wide_code (added heard_once second_v).1 (first_v ∷ second_v ∷ [])
in_bounds =
    subst (Bounds wide_code (added heard_once second_v).1) both-accepted
    (held-bounds wide_d wide_code (add vector ∷ clear ∷ add first_v ∷ add second_v ∷ []) describes)

-- the second hearing would settle the frame: for every T that 14 allows, whatever byte the output held; `neither_decodes` has what each alone gives
pub second_settles : (T byte : ℕ) → 1 ≤ T → T ≤ 5 → previewed heard_once second_v T (byte ∷ []) ≡ (Ok (tally 1 24), 0x80 ∷ [])
second_settles T byte least most =
    let held = (previews second_v).sums second_fine in
    (previews second_v).decoded second_fine T (byte ∷ []) ∙ sym (held.decoded_is AfterFlip T (byte ∷ []))
    ∙ (both_decode (added heard_once second_v).1 held in_bounds T byte least most).1

-- a vector that is too short, and one with a value out of range: nothing is decoded
pub short_refused : (T : ℕ) (output : List ℕ) → previewed heard_once (0x01 ∷ []) T output ≡ (Err (Refused ChannelLength), output)
unfolding judge
short_refused = (previews (0x01 ∷ [])).refused ChannelLength refl

abbrev pub outside_v : List ℕ
outside_v = 0x01 ∷ 0x20 ∷ 0 ∷ 0 ∷ 0 ∷ 0 ∷ 0 ∷ 0 ∷ []

pub outside_refused : (T : ℕ) (output : List ℕ) → previewed heard_once outside_v T output ≡ (Err (Refused (ChannelValue 1)), output)
unfolding first_where judge channel_value
outside_refused = (previews outside_v).refused (ChannelValue 1) refl

-- and for C, in any buffer of the right size
module _ (b : List ℕ) (size : length b ≡ hearing_size) where
  pub buffer_settles : (T byte : ℕ) → 1 ≤ T → T ≤ 5
      → previewed_in (buffer_after (opened_in wide_d b).1 calls) second_v T (byte ∷ []) ≡ (Ok (tally 1 24), 0x80 ∷ [])
  buffer_settles T byte least most =
      preview_in_after wide_d b wide_code calls second_v T (byte ∷ []) describes size ∙ second_settles T byte least most

-- ---- a full hearing: zeros, 255 times

abbrev pub full : List Call
full = replicate 255 (add (replicate 8 0))

all-accepted : length (accepted_in wide_code [] full) ≡ 255
unfolding first_where judge refused_or channel_value
all-accepted = refl

pub full_refused : (T : ℕ) (output : List ℕ) → previewed (after (opened wide_d).1 full) second_v T output ≡ (Err (Refused HearingFull), output)
unfolding first_where judge channel_value
full_refused =
    (preview_after wide_d wide_code full second_v describes).refused HearingFull (ap (λ (n : ℕ). judge (add_refusals wide_code n second_v)) all-accepted)
