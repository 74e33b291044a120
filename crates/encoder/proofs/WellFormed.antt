-- Well-formed input: encode accepts a payload and an output exactly if none of refusals 9 to 11 applies.
use mathlib.Core.Path.{◌≡◌, refl, ◌∙◌}
use mathlib.Core.Bool.{true}
use mathlib.Core.Logic.{◌↔◌}
use mathlib.Core.List.{List}
use Prim.Native.Nat.{ℕ, ◌/◌}
use lib.ListN.{length}
use Rattle.refusal.specs.Judge.{judge}
use Rattle.refusal.proofs.Judge.{judge-none, judge_no, judge-past, refused_fine}
use Rattle.refusal.proofs.Tests.{differs-past, differs_no}
use Rattle.bits.specs.Packing.{bytes_for, unused_bits}
use Rattle.code.specs.declared.Code.{Code}
use Rattle.code.specs.Code.{code_length}
use Rattle.code.specs.Description.{mask_of}
use Rattle.code.specs.Claims.{WellFormedUnder}
use Rattle.code.proofs.Operations.{under-exactly}
use Rattle.encoder.specs.Encode.{codeword, encoding_refusals, encoded_by, encoded}
use Rattle.encoder.specs.Claims.{WellFormed}
use Rattle.std.specs.Prelude.{Err, Ok, is_ok}
use Rattle.encoder.specs.Clauses.{Encoded}

module _ (c : Code) (payload output : List ℕ) where
  pub well_formed_fine : WellFormed c payload output → judge (encoding_refusals c payload output) ≡ Ok tt
  well_formed_fine w =
      judge_no _ _ _ (differs_no (length payload) (bytes_for c.k) w.payload_size)
      ∙ judge_no _ _ _ (differs_no (unused_bits payload c.k) 0 w.unused_clear)
      ∙ judge_no _ _ _ (differs_no (length output) (code_length c / 8) w.output_size)
      ∙ judge-none

  pub fine_well_formed : judge (encoding_refusals c payload output) ≡ Ok tt → WellFormed c payload output
  fine_well_formed e =
      let s9 = judge-past _ _ _ e in
      let s10 = judge-past _ _ _ s9.1 in
      let s11 = judge-past _ _ _ s10.1 in
      record {
        payload_size = differs-past (length payload) (bytes_for c.k) s9.0;
        unused_clear = differs-past (unused_bits payload c.k) 0 s10.0;
        output_size = differs-past (length output) (code_length c / 8) s11.0;
      }

  -- the answer to well-formed input is the codeword
  pub well_formed_answer : (mask : List ℕ) → WellFormed c payload output → encoded_by mask c payload output ≡ (Ok tt, codeword mask c payload)
  unfolding encoded_by
  well_formed_answer mask w =
      refused_fine _ _ _ (well_formed_fine w)

-- under a description
pub well_formed_exactly : (d payload output : List ℕ) → WellFormedUnder d (λ c. WellFormed c payload output) ↔ (is_ok (encoded d payload output).0 ≡ true)
unfolding encoded encoded_by
well_formed_exactly d payload output =
    under-exactly (λ (z : Encoded × List ℕ). is_ok z.0) (λ x. (Err x, output)) (λ x. refl) (λ c. encoding_refusals c payload output)
    (λ c. (Ok tt, codeword (mask_of d) c payload)) (λ c. refl) (λ c. (well_formed_fine c payload output, fine_well_formed c payload output)) d
