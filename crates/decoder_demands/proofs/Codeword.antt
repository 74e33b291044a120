-- What a trial that passes decodes to: its bits are zero at frozen indices, so its payload, encoded, is the transform of its bits.
use mathlib.Core.Path.{◌≡◌, sym, ap, ◌∙◌}
use mathlib.Core.Bool.{true}
use mathlib.Core.List.{List, [], ◌++◌}
use Prim.Native.Nat.{ℕ, ◌/◌, ◌<◌}
use native.Mathlib.Nat.{zero-add}
use native.Mathlib.Omega.{arith}
use lib.IntN.{ℤ, pos}
use lib.ListN.{length, get_or, take, drop, take-append-drop}
use lib.Seq.{length-take-le}
use Rattle.bits.specs.Claims.{Bits}
use Rattle.bits.specs.Mask.{mask_bit}
use Rattle.bits.specs.Packing.{bytes_for, packed, unpacked, unused_bits}
use Rattle.bits.proofs.Lists.{bits-take}
use Rattle.bits.proofs.Packing.{length-packed, unpacked-packed, unused_packed}
use Rattle.code.specs.declared.Code.{Code}
use Rattle.code.specs.Code.{code_length, divisor, start_bits}
use Rattle.code.specs.Description.{mask_of, describe, on_description}
use Rattle.code.specs.Claims.{Coded}
use Rattle.code.proofs.Facts.{described}
use Rattle.crc.specs.Check.{check_of}
use Rattle.crc.proofs.Message.{same_iff}
use Rattle.transform.specs.Transform.{transformed}
use Rattle.placing.specs.Place.{placed}
use Rattle.placing.proofs.Placing.{bits-taken, placed-taken}
use Rattle.values.specs.Values.{Rule, decided, mask_rule}
use Rattle.values.proofs.Rules.{rule-frozen}
use Rattle.encoder.specs.Encode.{message_of, codeword, encoded_by, encoded}
use Rattle.encoder.specs.Claims.{WellFormed}
use Rattle.encoder.proofs.WellFormed.{well_formed_answer}
use Rattle.pass_tree.specs.Node.{node}
use Rattle.pass_tree.proofs.Node.{length-bits}
use Rattle.pass_tree.proofs.Decisions.{bit-decided}
use Rattle.flip_trial.specs.declared.Restart.{Restart}
use Rattle.flip_trial.specs.Flips.{Flips}
use Rattle.flip_trial.specs.Trial.{first_trial, later_trial, flip_rule, lowest, forced_prefix, restart_at, message_in, trial_passes}
use Rattle.flip_trial.proofs.Flips.{rule-zero}
use Rattle.flip_trial.proofs.Restartable.{restartable}
use Rattle.flip_trial.proofs.Agree.{length-prefix, same_bits}
use Rattle.flip_trial.proofs.Message.{length-message}
use Rattle.std.specs.Prelude.{Err, Ok}
use Rattle.code.specs.Clauses.{Description}

-- ---- the bits of a trial

module _ (mask : List ℕ) (c : Code) (v : List ℤ) where
  pub length_first_bits : length (first_trial mask c v).bits ≡ code_length c
  length_first_bits = length-bits c.n [] (mask_rule mask) v (omega arith)

  pub first-frozen : (i : ℕ) → i < code_length c → mask_bit mask i ≡ 0 → get_or (first_trial mask c v).bits i 0 ≡ 0
  first-frozen i l z =
      bit-decided c.n [] (mask_rule mask) v (omega arith) i i (zero-add i) l
      ∙ ap (λ (r : Rule). decided r (get_or (first_trial mask c v).leaves i (pos 0))) (rule-frozen mask i z)

  -- a later trial
  module _ (is : List ℕ) (flips : Flips mask (code_length c) is) (restart : Restart) where
    pub length_later_bits : length (later_trial restart mask c v is).bits ≡ code_length c
    length_later_bits =
        let q : ℕ = restart_at restart mask (code_length c) (lowest is) in
        let most = (restartable flips restart).most in
        length-bits c.n (forced_prefix (first_trial mask c v).bits (lowest is) q) (flip_rule mask is) v (omega (arith, length-prefix mask c v is q most))

    pub later-frozen : (i : ℕ) → i < code_length c → mask_bit mask i ≡ 0 → get_or (later_trial restart mask c v is).bits i 0 ≡ 0
    later-frozen i l z =
        let q : ℕ = restart_at restart mask (code_length c) (lowest is) in
        ap (λ (b : List ℕ). get_or b i 0) (same_bits mask c v is flips q (restartable flips restart))
        ∙ bit-decided c.n [] (flip_rule mask is) v (omega arith) i i (zero-add i) l
        ∙ ap (λ (r : Rule). decided r (get_or (node c.n [] (flip_rule mask is) v).leaves i (pos 0))) (rule-zero flips i z)

-- ---- the payload of bits that pass, encoded

module _ {mask : List ℕ} {c : Code} (on : Coded mask c) (u : List ℕ) where
  -- the payload in the bits
  abbrev payload : List ℕ
  payload = take c.k (message_in mask c u)

  length-payload : length payload ≡ c.k
  length-payload = length-take-le c.k (message_in mask c u) (omega (arith, length-message on u))

  pub codeword-back : length u ≡ code_length c → Bits u → ((i : ℕ) → i < code_length c → mask_bit mask i ≡ 0 → get_or u i 0 ≡ 0) → trial_passes mask c u ≡ true → codeword mask c (packed (take c.k (message_in mask c u))) ≡ packed (transformed c.n u)
  unfolding codeword
  codeword-back long bits frozen passes =
      let m : List ℕ = message_in mask c u in
      let out : unpacked (packed payload) c.k ≡ payload =
      ap (unpacked (packed payload)) (sym length-payload) ∙ unpacked-packed payload (bits-take c.k m (bits-taken mask u (code_length c) bits)) in
      let check : check_of (divisor c) (start_bits c) payload ≡ drop c.k m = sym ((same_iff _ _).0 passes) in
      let message : message_of c (unpacked (packed payload) c.k) ≡ m =
      ap (message_of c) out ∙ ap (λ (s : List ℕ). payload ++ s) check ∙ take-append-drop c.k m in
      ap (λ (x : List ℕ). packed (transformed c.n x)) (ap (λ (x : List ℕ). placed mask x (code_length c)) message ∙ placed-taken mask u (code_length c) long frozen)

-- ---- under a description

-- the answer of encode
pub encodes_back : (d : List ℕ) {c : Code} → describe d ≡ Ok c → (u : List ℕ) → length u ≡ code_length c → Bits u → ((i : ℕ) → i < code_length c → mask_bit (mask_of d) i ≡ 0 → get_or u i 0 ≡ 0) → trial_passes (mask_of d) c u ≡ true → (output : List ℕ) → length output ≡ code_length c / 8 → encoded d (packed (take c.k (message_in (mask_of d) c u))) output ≡ (Ok tt, packed (transformed c.n u))
unfolding encoded
encodes_back d {c} code u long bits frozen passes output size =
    let on : Coded (mask_of d) c = (described d c code).coded in
    let p : List ℕ = take c.k (message_in (mask_of d) c u) in
    let k = length-payload on u in
    let w : WellFormed c (packed p) output = record {
      payload_size = length-packed p ∙ ap bytes_for k;
      unused_clear = ap (unused_bits (packed p)) (sym k) ∙ unused_packed p;
      output_size = size;
    } in
    ap (λ (x : Description). on_description x (λ i. (Err i, output)) (λ c. encoded_by (mask_of d) c (packed p) output)) code
    ∙ well_formed_answer c (packed p) output (mask_of d) w
    ∙ ap (λ (x : List ℕ). (Ok tt, x)) (codeword-back on u long bits frozen passes)
