-- The codeword, unpacked, and what an accepting encode says of its payload and its bytes.
use mathlib.Core.Path.{◌≡◌, refl, sym, ap, ◌∙◌}
use mathlib.Core.List.{List}
use Prim.Native.Nat.{ℕ}
use Rattle.refusal.proofs.Judge.{accepted-fine}
use Rattle.bits.specs.Packing.{packed, unpacked}
use Rattle.bits.proofs.Packing.{unpacked-packed}
use Rattle.code.specs.declared.Code.{Code}
use Rattle.code.specs.Code.{code_length}
use Rattle.code.specs.Description.{mask_of, describe, on_description}
use Rattle.transform.specs.Transform.{transformed}
use Rattle.transform.proofs.Transformed.{length-transformed, bits-transformed}
use Rattle.placing.specs.Place.{placed}
use Rattle.encoder.specs.Encode.{message_of, codeword, encoded_by, encoded}
use Rattle.encoder.specs.Claims.{WellFormed}
use Rattle.encoder.proofs.WellFormed.{fine_well_formed, well_formed_answer}
use Rattle.std.specs.Prelude.{Err, Ok, is_ok}
use Rattle.code.specs.Clauses.{Description}
use Rattle.encoder.specs.Clauses.{Encoded}

pub unpacked-codeword : (mask : List ℕ) (c : Code) (payload : List ℕ) → unpacked (codeword mask c payload) (code_length c) ≡ transformed c.n (placed mask (message_of c (unpacked payload c.k)) (code_length c))
unfolding codeword
unpacked-codeword mask c payload =
    let x : List ℕ = transformed c.n (placed mask (message_of c (unpacked payload c.k)) (code_length c)) in
    ap (unpacked (packed x)) (sym (length-transformed c.n _)) ∙ unpacked-packed x (bits-transformed c.n _)

-- encode accepted, and gave these bytes
pub record EncodedFrom (mask : List ℕ) (c : Code) (payload output bytes : List ℕ) : Type 0 where
  pub well_formed : WellFormed c payload output
  pub gives : codeword mask c payload ≡ bytes

pub encoded_from : (d : List ℕ) (c : Code) (payload output bytes : List ℕ) → describe d ≡ Ok c → encoded d payload output ≡ (Ok tt, bytes) → EncodedFrom (mask_of d) c payload output bytes
unfolding encoded encoded_by
encoded_from d c payload output bytes code e =
    let by : encoded_by (mask_of d) c payload output ≡ (Ok tt, bytes) =
    sym (ap (λ (x : Description). on_description x (λ i. (Err i, output)) (λ c. encoded_by (mask_of d) c payload output)) code) ∙ e in
    let w = fine_well_formed c payload output
    (accepted-fine (λ (z : Encoded × List ℕ). is_ok z.0) (λ x. (Err x, output)) (λ x. refl) (Ok tt, codeword (mask_of d) c payload) _
    (ap (λ (z : Encoded × List ℕ). is_ok z.0) by)) in
    record { well_formed = w; gives = ap (λ (z : Encoded × List ℕ). z.1) (sym (well_formed_answer c payload output (mask_of d) w) ∙ by) }
