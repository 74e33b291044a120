-- A trial's message: its length, and that it stands at the start of the room into which it is taken.
use mathlib.Core.Path.{◌≡◌, sym, ap, ◌∙◌}
use mathlib.Core.List.{List}
use Prim.Native.Nat.{ℕ, ◌*◌, ◌≤◌}
use native.Mathlib.Omega.{arith}
use lib.ListN.{length, take}
use Rattle.laws.specs.Clauses.{splice}
use Rattle.laws.proofs.Segment.{segment-splice}
use Rattle.bits.specs.Mask.{ones_below}
use Rattle.code.specs.declared.Code.{Code}
use Rattle.code.specs.Code.{code_length, information_count}
use Rattle.code.specs.Claims.{Coded}
use Rattle.placing.specs.Place.{taken}
use Rattle.placing.proofs.Placing.{length_taken, taken-take}
use Rattle.flip_trial.specs.Trial.{message_in}

module _ {mask : List ℕ} {c : Code} (on : Coded mask c) where
  pub length-message : (bits : List ℕ) → length (message_in mask c bits) ≡ information_count c
  length-message bits = length_taken mask bits (code_length c) ∙ ap (ones_below mask) (sym on.mask_size) ∙ on.K_is

  -- taken out of an array that begins with the bits
  pub message-at : (bits room room' : List ℕ) → code_length c ≤ length room → room' ≡ splice room 0 (taken mask bits (8 * length mask)) → take (information_count c) room' ≡ message_in mask c (take (code_length c) bits)
  message-at bits room room' l e =
      ap (take (information_count c)) (e ∙ ap (λ (m : ℕ). splice room 0 (taken mask bits m)) on.mask_size)
      ∙ segment-splice room 0 (message_in mask c bits) (information_count c) (length-message bits) (omega (arith, on.K_most))
      ∙ sym (taken-take mask bits (code_length c) (code_length c) (omega arith))
