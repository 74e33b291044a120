-- What is true of a state that is not refused as 40.
use mathlib.Core.Path.{◌≡◌, refl, ap, ◌∙◌, subst}
use mathlib.Core.Bool.{Bool, true, false, cond}
use Prim.Native.Nat.{ℕ, ◌≤◌}
use native.Mathlib.Omega.{arith}
use lib.ListN.{length, drop}
use Rattle.refusal.specs.Judge.{judge, refused_or}
use Rattle.arrays.specs.Sizes.{largest_n}
use Rattle.arrays.specs.Padded.{all_zero}
use Rattle.laws.proofs.Choice.{and_true}
use Rattle.code.specs.declared.Code.{Code}
use Rattle.code.specs.Description.{describe_up_to, describe, on_description}
use Rattle.code.proofs.Facts.{described}
use Rattle.hearing.specs.Hearing.{is_hearing}
use Rattle.hearing_state.specs.State.{State, no_state, description_of, is_state, code_of_state}
use Rattle.refusal.specs.declared.Refusal.TheVariants.{NotAState}
use Rattle.std.specs.Prelude.{Err, Ok}
use Rattle.code.specs.Clauses.{Description}

module _ (s : State) where
  -- the code by what the description says
  abbrev pub code_by : Description → Description
  code_by a = on_description a (λ x. Err NotAState) (λ c. cond (is_state c s) (Ok c) (Err NotAState))

  pub code_by_lem : (c : Code) (t : Bool) → describe (description_of s) ≡ Ok c → is_state c s ≡ t → code_of_state s ≡ cond t (Ok c) (Err NotAState)
  code_by_lem c t e is = ap code_by e ∙ ap (λ (b : Bool). cond b (Ok c) (Err NotAState)) is

  pub state_is : (c : Code) → code_of_state s ≡ Ok c → (describe (description_of s) ≡ Ok c) × (is_state c s ≡ true)
  state_is c = go (describe (description_of s)) refl
    where
      at : (c' : Code) (t : Bool) → describe (description_of s) ≡ Ok c' → is_state c' s ≡ t → cond t (Ok c') (Err NotAState) ≡ Ok c → (describe (description_of s) ≡ Ok c) × (is_state c s ≡ true)
      at c' true e is f = let q : c' ≡ c = cc in (e ∙ ap Ok q, subst (λ (x : Code). is_state x s ≡ true) q is)
      at c' false e is f = let z : ◌≡◌ {A = ℕ} 0 1 = cc in absurd (omega arith)

      go : (a : Description) → describe (description_of s) ≡ a → code_by a ≡ Ok c → (describe (description_of s) ≡ Ok c) × (is_state c s ≡ true)
      go (Ok c') e f = at c' (is_state c' s) e refl f
      go (Err x) e f = let z : ◌≡◌ {A = ℕ} 0 1 = cc in absurd (omega arith)

  pub code-most : (c : Code) → code_of_state s ≡ Ok c → c.n ≤ largest_n
  code-most c e = (described (description_of s) c (state_is c e).0).coded.n_most

  pub is_hearing_lem : (c : Code) → code_of_state s ≡ Ok c → is_hearing c s.hearing ≡ true
  is_hearing_lem c e =
      (and_true (all_zero (drop (length (description_of s)) s.description)) (is_hearing c s.hearing) (state_is c e).1).1

-- no state is refused
pub no_code : code_of_state no_state ≡ Err NotAState
unfolding describe_up_to refused_or judge
no_code = refl
