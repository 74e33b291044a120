-- The bytes of a state: what was written is read back, and what open and clear write.
use mathlib.Core.Path.{◌≡◌, refl, sym, ap, ap₂, ◌∙◌}
use mathlib.Core.Bool.{Bool, cond}
use mathlib.Core.List.{List, [], ◌∷◌, ◌++◌, append_assoc}
use Prim.Native.Nat.{ℕ, suc, ◌+◌, ◌-◌, ◌^◌, ◌≤◌}
use native.Mathlib.Omega.{arith}
use borrow.Author.Tests.{eq-eqb}
use lib.ListN.{length, take, drop, replicate, length-append, length-drop, take-append-drop, replicate-append-replicate}
use lib.Seq.{take_at, drop_at, get_or_at, drop-cons, append_snoc}
use Rattle.arrays.specs.Sizes.{largest_n}
use Rattle.code.specs.Code.{longest_description}
use Rattle.hearing.specs.Hearing.{fresh}
use Rattle.hearing_state.specs.State.{State, state_of, no_state, with_hearing}
use Rattle.hearing_buffer.specs.Lent.{hearing_size, bytes_of, state_in}
use Rattle.hearing_buffer.specs.Clauses.{state_at}
use Rattle.hearing_buffer.specs.Claims.{ReadWritten, WrittenRead}

pub size_of : (s : State) → length s.description ≡ longest_description → length s.hearing.values ≡ 2 ^ largest_n → length (bytes_of s) ≡ hearing_size
size_of s nd nv = omega (arith, length-append s.description (s.hearing.count ∷ s.hearing.values))

-- the state in a buffer of the right size
pub state_at_lem : (b : List ℕ) → length b ≡ hearing_size → state_in b ≡ state_at b
state_at_lem b nb = ap (λ (t : Bool). cond t (state_at b) no_state) (eq-eqb (length b) hearing_size nb)

pub read_written : ReadWritten
read_written s nd nv =
    state_at_lem (bytes_of s) (size_of s nd nv)
    ∙ λ i. record {
      description = take_at s.description (s.hearing.count ∷ s.hearing.values) longest_description nd i;
      hearing = record { values = values i; count = get_or_at s.description s.hearing.count s.hearing.values 0 longest_description nd i };
    }
  where
    values : drop (1 + longest_description) (bytes_of s) ≡ s.hearing.values
    values =
        ap (drop (1 + longest_description)) (sym (append_snoc s.description s.hearing.count s.hearing.values))
        ∙ drop_at (s.description ++ (s.hearing.count ∷ [])) s.hearing.values (1 + longest_description) (omega (arith, length-append s.description (s.hearing.count ∷ [])))

pub written_read : WrittenRead
written_read b nb =
    ap bytes_of (state_at_lem b nb) ∙ ap (λ (l : List ℕ). take longest_description b ++ l) (sym (drop-cons b longest_description 0 (omega arith)))
    ∙ take-append-drop longest_description b

-- ---- what open and clear write

-- a description at the beginning of a buffer, and zeros after it, are the bytes of its fresh hearing
pub fresh-bytes : (b d : List ℕ) → length b ≡ hearing_size → length d ≤ longest_description
    → take (length d) (d ++ drop (length d) b) ++ replicate (length (d ++ drop (length d) b) - length d) 0 ≡ bytes_of (state_of d fresh)
fresh-bytes b d nb room =
    let after : List ℕ = drop (length d) b in
    let rest : ℕ = longest_description - length d in
    let many : length (d ++ after) - length d ≡ rest + suc (2 ^ largest_n - 0) = omega (arith, length-append d after, length-drop (length d) b) in
    ap₂ (λ (l : List ℕ) (k : ℕ). l ++ replicate k 0) (take_at d after (length d) refl) many
    ∙ ap (λ (l : List ℕ). d ++ l) (sym (replicate-append-replicate rest (suc (2 ^ largest_n - 0)) 0))
    ∙ sym (append_assoc d (replicate rest 0) (replicate (suc (2 ^ largest_n - 0)) 0))

-- zeros after the description are the bytes of a state that is cleared
pub clear_bytes : (b : List ℕ) → length b ≡ hearing_size
    → take longest_description b ++ replicate (length b - longest_description) 0 ≡ bytes_of (with_hearing (state_in b) fresh)
clear_bytes b nb =
    let many : length b - longest_description ≡ suc (2 ^ largest_n - 0) = omega arith in
    ap (λ (k : ℕ). take longest_description b ++ replicate k 0) many ∙ ap (λ (s : State). bytes_of (with_hearing s fresh)) (sym (state_at_lem b nb))
