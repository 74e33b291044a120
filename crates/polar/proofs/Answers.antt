-- The answers of the calls fit their numbers.
use mathlib.Core.Path.{◌≡◌, sym, subst}
use mathlib.Core.List.{List}
use Prim.Native.Nat.{ℕ}
use Rattle.encoder.specs.Encode.{encoded}
use Rattle.encoder.specs.Clauses.{Encoded}
use Rattle.pass_tree.specs.declared.Work.{Work}
use Rattle.pass_resume.specs.Resume.{resumed}
use Rattle.pass_resume.specs.Clauses.{Resumed}
use Rattle.flip_trial.specs.declared.Restart.{Restart}
use Rattle.flip_run.specs.declared.Tally.{Tally}
use Rattle.flip_run.specs.Clauses.{Decoded}
use Rattle.decoder.specs.Decoder.{Decoder, decoded_as}
use Rattle.hearing_state.specs.State.{State, decoded_held_with}
use Rattle.hearing_buffer.specs.Lent.{opened_in, added_in, cleared_in}
use Rattle.hearing_buffer.specs.Clauses.{Kept}
use Rattle.hearing_preview.specs.Preview.{previewed_in}
use Rattle.polar_number.specs.Number.{parts, refusal_parts, encoded_parts, resumed_parts, decoded_parts, kept_parts}
use Rattle.polar_number.specs.Clauses.{Fitting, error_parts, answer_parts}
use Rattle.polar.proofs.Fitting.{Fits, encoded-fits, resumed-fits, decoded_fits, opened-fits, added-fits, cleared-fits, held_fits, previewed-fits}
use Rattle.std.specs.Prelude.{Err, Ok}
use Rattle.flip_run.specs.declared.DecodingError.TheVariants.{NonePassed, Refused}

-- ---- the parts of each answer, as `answer_number` goes by them

abbrev EncodedFits : Encoded → Type 0
EncodedFits a = Fitting (answer_parts (λ done. parts 0 0 0) refusal_parts a)

as_encoded : (a : Encoded) → Fitting (encoded_parts a) → EncodedFits a
as_encoded (Ok tt) f = f
as_encoded (Err x) f = f

abbrev ResumedFits : Resumed → Type 0
ResumedFits a = Fitting (answer_parts (λ (work : Work). parts 0 0 work.steps) refusal_parts a)

as_resumed : (a : Resumed) → Fitting (resumed_parts a) → ResumedFits a
as_resumed (Ok work) f = f
as_resumed (Err x) f = f

abbrev KeptFits : Kept → Type 0
KeptFits a = Fitting (answer_parts (λ count. parts 0 count 0) refusal_parts a)

as_kept : (a : Kept) → Fitting (kept_parts a) → KeptFits a
as_kept (Ok count) f = f
as_kept (Err x) f = f

abbrev DecodedFits : Decoded → Type 0
DecodedFits a = Fitting (answer_parts (λ (tally : Tally). parts 0 tally.trials tally.steps) error_parts a)

as_decoded : (a : Decoded) → Fitting (decoded_parts a) → DecodedFits a
as_decoded (Ok passed) f = f
as_decoded (Err (NonePassed failed)) f = f
as_decoded (Err (Refused x)) f = f

-- ---- an answer that a definition gives

module _ {bytes : List ℕ} where
  pub of_encoding : {a : Encoded} (d payload output : List ℕ) → (a, bytes) ≡ encoded d payload output → EncodedFits a
  of_encoding d payload output e = as_encoded _ (subst (Fits encoded_parts) (sym e) (encoded-fits d payload output))

  pub of_resuming : {a : Resumed} (d channel prefix output : List ℕ) → (a, bytes) ≡ resumed d channel prefix output → ResumedFits a
  of_resuming d channel prefix output e = as_resumed _ (subst (Fits resumed_parts) (sym e) (resumed-fits d channel prefix output))

  pub of_opening : {a : Kept} (d b : List ℕ) → (a, bytes) ≡ opened_in d b → KeptFits a
  of_opening d b e = as_kept _ (subst (Fits kept_parts) (sym e) (opened-fits d b))

  pub of_adding : {a : Kept} (b channel : List ℕ) → (a, bytes) ≡ added_in b channel → KeptFits a
  of_adding b channel e = as_kept _ (subst (Fits kept_parts) (sym e) (added-fits b channel))

  pub of_clearing : {a : Kept} (b : List ℕ) → (a, bytes) ≡ cleared_in b → KeptFits a
  of_clearing b e = as_kept _ (subst (Fits kept_parts) (sym e) (cleared-fits b))

  pub of_decoding : {a : Decoded} (p : Decoder) (restart : Restart) (d channel output : List ℕ) → (a, bytes) ≡ decoded_as p restart d channel output → DecodedFits a
  of_decoding p restart d channel output e = as_decoded _ (subst (Fits decoded_parts) (sym e) (decoded_fits p restart d channel output))

  pub of_held : {a : Decoded} (restart : Restart) (s : State) (limit : ℕ) (output : List ℕ) → (a, bytes) ≡ decoded_held_with restart s limit output → DecodedFits a
  of_held restart s limit output e = as_decoded _ (subst (Fits decoded_parts) (sym e) (held_fits restart s limit output))

  pub of_previewing : {a : Decoded} (b channel : List ℕ) (limit : ℕ) (output : List ℕ) → (a, bytes) ≡ previewed_in b channel limit output → DecodedFits a
  of_previewing b channel limit output e = as_decoded _ (subst (Fits decoded_parts) (sym e) (previewed-fits b channel limit output))
