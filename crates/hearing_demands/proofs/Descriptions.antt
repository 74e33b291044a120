-- A state with an accepted description: it is the description that the state holds, and its code is the state's.
use mathlib.Core.Path.{◌≡◌, ap, ap₂, ◌∙◌}
use mathlib.Core.Bool.{true, ◌&&◌}
use mathlib.Core.List.{List}
use Prim.Native.Nat.{ℕ, ◌+◌, ◌-◌, ◌*◌, ◌≤◌}
use native.Mathlib.Omega.{arith}
use lib.ListN.{length, take, drop, replicate, get_or-append}
use Rattle.refusal.specs.declared.Refusal.{Refusal}
use Rattle.arrays.specs.Padded.{padded, all_zero}
use Rattle.arrays.proofs.Zeros.{are_zeros, take-padded, drop-padded}
use Rattle.code.specs.declared.Code.{Code}
use Rattle.code.specs.Description.{word, describe, on_description}
use Rattle.code.specs.Claims.{Laid}
use Rattle.code.specs.Code.{longest_description}
use Rattle.code.proofs.WellFormed.{well_formed_exactly}
use Rattle.code.proofs.Facts.{described}
use Rattle.code.proofs.TwoKinds.{fields-there}
use Rattle.code.proofs.Room.{description-most}
use Rattle.flip_trial.specs.declared.Restart.{Restart}
use Rattle.decoder.specs.Decoder.{single, decoded_as}
use Rattle.hearing.specs.Hearing.{Hearing, combined, fresh, is_hearing}
use Rattle.hearing_state.specs.State.{State, state_of, no_state, description_of, code_of_state, refused_in, opened, decoded_held_with}
use Rattle.hearing_state.proofs.States.{code_by_lem}
use Rattle.std.specs.Prelude.{Err, Ok, is_ok}
use Rattle.flip_run.specs.declared.DecodingError.TheVariants.{Refused}
use Rattle.code.specs.Clauses.{Description}

module _ (d : List ℕ) (c : Code) (code : describe d ≡ Ok c) where
  pub description-room : length d ≤ longest_description
  description-room = description-most (described d c code)

  pub opened-is : opened d ≡ (Ok tt, state_of d fresh)
  opened-is = ap (λ (a : Description). on_description a (refused_in no_state) (λ _. (Ok tt, state_of d fresh))) code

  module _ (h : Hearing) where
    -- its length field is its length
    pub description-of : description_of (state_of d h) ≡ d
    description-of =
        let laid : Laid d = ((well_formed_exactly d).1 (ap is_ok code)).laid in
        let long : 8 ≤ length d = fields-there d laid.header in
        let rest : List ℕ = replicate (longest_description - length d) 0 in
        let field : word (padded longest_description d) 0 ≡ word d 0 =
        ap₂ (λ (a b : ℕ). a + 256 * b) (get_or-append d rest 0 0 (omega arith)) (get_or-append d rest 0 1 (omega arith)) in
        ap (λ (k : ℕ). take k (padded longest_description d)) (field ∙ laid.length_field) ∙ take-padded longest_description d description-room

    -- zeros follow it
    pub code_of : is_hearing c h ≡ true → code_of_state (state_of d h) ≡ Ok c
    code_of is =
        let s : State = state_of d h in
        let zeros : all_zero (drop (length (description_of s)) s.description) ≡ true =
        ap (λ (x : List ℕ). all_zero (drop (length x) s.description)) description-of
        ∙ ap all_zero (drop-padded longest_description d description-room) ∙ are_zeros (longest_description - length d) in
        code_by_lem s c true (ap describe description-of ∙ code) (ap₂ ◌&&◌ zeros is)

    -- so every operation goes on with the code
    pub on_state : {X : Type 0} → is_hearing c h ≡ true → (refuse : Refusal → X) (go : Code → X)
        → on_description (code_of_state (state_of d h)) refuse go ≡ go c
    on_state is refuse go = ap (λ (a : Description). on_description a refuse go) (code_of is)

    -- as decoding does
    pub decoded_is : is_hearing c h ≡ true → (restart : Restart) (limit : ℕ) (output : List ℕ)
        → decoded_held_with restart (state_of d h) limit output ≡ decoded_as (single limit) restart d (combined c h) output
    decoded_is is restart limit output =
        on_state is (λ x. (Err (Refused x), output)) (λ c. decoded_as (single limit) restart (description_of (state_of d h)) (combined c h) output)
        ∙ ap (λ (x : List ℕ). decoded_as (single limit) restart x (combined c h) output) description-of
