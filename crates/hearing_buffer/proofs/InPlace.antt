-- The parts of a buffer that holds a state, and what an add in place leaves in it.
use mathlib.Core.Path.{◌≡◌, refl, sym, ap, ap₂, ◌∙◌}
use mathlib.Core.Bool.{Bool, true, false, cond}
use mathlib.Core.List.{List, [], ◌∷◌, ◌++◌, append-nil}
use Prim.Native.Nat.{ℕ, ◌+◌, ◌-◌}
use native.Mathlib.Omega.{arith}
use borrow.Author.Tests.{eqb-true}
use borrow.Rule.Slice.PartMut.{put_mid}
use lib.Dec.{eqb}
use lib.ListN.{length, get_or, take, drop, set, length-drop, drop_of_length-le}
use lib.Seq.{take_all, take-suc, append_snoc, set_at, length-take-le}
use Rattle.code.specs.declared.Code.{Code}
use Rattle.code.specs.Code.{longest_description}
use Rattle.hearing_state.specs.State.{no_state, code_of_state}
use Rattle.hearing_state.specs.Clauses.{state_by, StatePre}
use Rattle.hearing_state.proofs.States.{no_code}
use Rattle.hearing_buffer.specs.Lent.{hearing_size, state_in}
use Rattle.hearing_buffer.specs.Clauses.{state_at}
use Rattle.hearing_buffer.proofs.Bytes.{state_at_lem}
use Rattle.std.specs.Prelude.{Ok}

-- a buffer whose state has a code has the right size
pub code-size : (b : List ℕ) (c : Code) → code_of_state (state_in b) ≡ Ok c → length b ≡ hearing_size
code-size b c = at (eqb (length b) hearing_size) refl
  where
    at : (t : Bool) → eqb (length b) hearing_size ≡ t → code_of_state (cond t (state_at b) no_state) ≡ Ok c → length b ≡ hearing_size
    at true e f = eqb-true (length b) hearing_size e
    at false e f =
        let refused = sym no_code ∙ f in
        let z : ◌≡◌ {A = ℕ} 0 1 = cc in
        absurd (omega arith)

module _ (b : List ℕ) (size : length b ≡ hearing_size) where
  abbrev pub values_at : ℕ
  values_at = 1 + longest_description

  -- the values, as they are lent
  abbrev pub part : List ℕ
  part = take (length b - values_at) (drop values_at b)

  pub part-is : part ≡ drop values_at b
  part-is = take_all (length b - values_at) (drop values_at b) (omega (arith, length-drop values_at b))

  pub parts : StatePre (take longest_description b) part
  parts = record {
    description_size = length-take-le longest_description b (omega (arith, size));
    values_size = ap (λ (l : List ℕ). length l) part-is ∙ omega (arith, length-drop values_at b, size);
  }

  pub state_parts : state_by (take longest_description b) (get_or b longest_description 0) part ≡ state_in b
  state_parts = ap (state_by (take longest_description b) (get_or b longest_description 0)) part-is ∙ sym (state_at_lem b size)

  -- other values, and another count
  pub added-bytes : (v : List ℕ) (x : ℕ) → set (put_mid values_at (length b - values_at) b v) longest_description x ≡ take longest_description b ++ (x ∷ v)
  added-bytes v x =
      let none : drop (length b - values_at) (drop values_at b) ≡ [] = drop_of_length-le (drop values_at b) {i = length b - values_at} (omega (arith, length-drop values_at b)) in
      let first : take values_at b ≡ take longest_description b ++ (get_or b longest_description 0 ∷ []) = take-suc b longest_description 0 (omega (arith, size)) in
      ap₂ (λ (l r : List ℕ). set (l ++ (v ++ r)) longest_description x) first none
      ∙ ap (λ (l : List ℕ). set ((take longest_description b ++ (get_or b longest_description 0 ∷ [])) ++ l) longest_description x) (append-nil v)
      ∙ ap (λ (l : List ℕ). set l longest_description x) (append_snoc (take longest_description b) (get_or b longest_description 0) v)
      ∙ set_at (take longest_description b) (get_or b longest_description 0) v x longest_description (length-take-le longest_description b (omega (arith, size)))
