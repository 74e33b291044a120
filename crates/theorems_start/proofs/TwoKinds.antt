-- Operations under descriptions of kinds 1 and 4: what document 01 by itself says of kind 1 stands, and kind 4 with start 0 answers as kind 1.
use mathlib.Core.Path.{◌≡◌, refl, ap₂, ◌∙◌}
use mathlib.Core.List.{List, []}
use Prim.Native.Nat.{ℕ, ◌≤◌}
use lib.ListN.{length, drop}
use Rattle.refusal.specs.declared.Refusal.{Refusal}
use Rattle.refusal.specs.Judge.{judge, refused_or}
use Rattle.code.specs.declared.Code.{Code}
use Rattle.code.specs.Description.{word, mask_of, describe, on_description}
use Rattle.code.specs.Claims.{refusals_at, code_at, describe_kind1, with_start}
use Rattle.code.proofs.TwoKinds.{kind_1, mask_1, start_0, same-mask}
use Rattle.encoder.specs.Encode.{codeword, encoded_by, encoded}
use Rattle.pass_resume.specs.Resume.{resumed_by, resumed}
use Rattle.flip_trial.specs.declared.Restart.{Restart}
use Rattle.decoder.specs.Decoder.{Decoder, decoded_under, decoded_as}
use Rattle.theorems_start.specs.Claims.{encoded_kind1, resumed_kind1, decoded_kind1}
use Rattle.std.specs.Prelude.{Err, Ok}
use Rattle.refusal.specs.Clauses.{Judgement}
use Rattle.code.specs.Clauses.{Description}

-- an operation that does `go` under a mask and a code
module _ {X : Type 0} (refuse : Refusal → X) (go : List ℕ → Code → X) where
  abbrev operation : Description → List ℕ → X
  operation x mask = on_description x refuse (go mask)

  -- under a slice that does not say kind 4 it is what document 01 says; `go'` is `go` under the mask from byte 8 on, if the start is 0
  under-kind_1 : (d : List ℕ) → (word d 2 ≡ 4 → ⊥) → (go' : Code → X) → go (drop 8 d) (code_at 8 0 d) ≡ go' (code_at 8 0 d)
      → operation (describe d) (mask_of d) ≡ on_description (describe_kind1 d) refuse go'
  unfolding refused_or
  under-kind_1 d other go' same = ap₂ operation (kind_1 d other) (mask_1 d other) ∙ by (judge (refusals_at 1 8 [] d))
    where
      by : (j : Judgement) → operation (refused_or j Err (Ok (code_at 8 0 d))) (drop 8 d) ≡ on_description (refused_or j Err (Ok (code_at 8 0 d))) refuse go'
      by (Ok tt) = same
      by (Err x) = refl

  -- under kind 4 with start 0 it is what it is under kind 1
  under_start_0 : (d : List ℕ) → 8 ≤ length d → word d 2 ≡ 1 → operation (describe (with_start 0 d)) (mask_of (with_start 0 d)) ≡ operation (describe d) (mask_of d)
  under_start_0 d header kind = ap₂ operation (start_0 d header kind) (same-mask 0 d kind)

-- ---- kind 1

module _ (d : List ℕ) (other : word d 2 ≡ 4 → ⊥) where
  pub encode_kind_1 : (payload output : List ℕ) → encoded d payload output ≡ encoded_kind1 d payload output
  unfolding encoded encoded_by codeword
  encode_kind_1 payload output = under-kind_1 _ (λ mask c. encoded_by mask c payload output) d other _ refl

  pub resume_kind_1 : (channel prefix output : List ℕ) → resumed d channel prefix output ≡ resumed_kind1 d channel prefix output
  unfolding resumed
  resume_kind_1 channel prefix output = under-kind_1 _ (λ mask c. resumed_by mask c channel prefix output) d other _ refl

  pub decode_kind_1 : (p : Decoder) (restart : Restart) (channel output : List ℕ) → decoded_as p restart d channel output ≡ decoded_kind1 p restart d channel output
  unfolding decoded_as decoded_under
  decode_kind_1 p restart channel output = under-kind_1 _ (λ mask c. decoded_under p restart mask c channel output) d other _ refl

-- ---- kind 4 with start 0

module _ (d : List ℕ) (header : 8 ≤ length d) (kind : word d 2 ≡ 1) where
  pub encode_start_0 : (payload output : List ℕ) → encoded (with_start 0 d) payload output ≡ encoded d payload output
  unfolding encoded
  encode_start_0 payload output = under_start_0 _ (λ mask c. encoded_by mask c payload output) d header kind

  pub resume_start_0 : (channel prefix output : List ℕ) → resumed (with_start 0 d) channel prefix output ≡ resumed d channel prefix output
  unfolding resumed
  resume_start_0 channel prefix output = under_start_0 _ (λ mask c. resumed_by mask c channel prefix output) d header kind

  pub decode_start_0 : (p : Decoder) (restart : Restart) (channel output : List ℕ) → decoded_as p restart (with_start 0 d) channel output ≡ decoded_as p restart d channel output
  unfolding decoded_as
  decode_start_0 p restart channel output = under_start_0 _ (λ mask c. decoded_under p restart mask c channel output) d header kind
