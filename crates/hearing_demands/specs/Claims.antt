-- What the theorems of this crate state besides `HeldAfter` and `BufferAfter`.
use Rattle.std.specs.Prelude.{◌≡◌, List, [], ℕ, ◌<◌, ◌≤◌, ◌^◌, length, get_or, Err, Ok}
use Rattle.refusal.specs.declared.Refusal.{Refusal}
use Rattle.arrays.specs.Sizes.{largest_n}
use Rattle.code.specs.declared.Code.{Code}
use Rattle.code.specs.Code.{code_length, longest_description}
use Rattle.code.specs.Description.{describe}
use Rattle.channel.specs.Channel.{first_outside}
use Rattle.hearing.specs.Hearing.{combined}
use Rattle.hearing_state.specs.State.{State, description_of, code_of_state, opened}
use Rattle.hearing_buffer.specs.Lent.{hearing_size, bytes_of, state_in}
use Rattle.hearing_demands.specs.Repeats.{Call, called, after, accepted_in}

-- what the state s of a code c holds is within bounds; this follows from `Holds.code_is`
pub record Bounds (c : Code) (s : State) (vectors : List (List ℕ)) : Type 0 where
  -- at most 255 vectors
  pub count_most : length vectors ≤ 255
  -- N values
  pub size_is : length (combined c s.hearing) ≡ code_length c
  -- they lie in −31..31
  pub in_range : first_outside (combined c s.hearing) ≡ code_length c

-- any code, and any list of adds and clears from a fresh hearing: `held-bounds` of proofs/HeldAfter.antt
abbrev pub HeldBounds : Type 0
HeldBounds = (d : List ℕ) (c : Code) (calls : List Call) → describe d ≡ Ok c → Bounds c (after (opened d).1 calls) (accepted_in c [] calls)

-- a refused call changes nothing: `refused_keeps`
abbrev pub RefusedKeeps : Type 0
RefusedKeeps = (s : State) (call : Call) (x : Refusal) → (called s call).0 ≡ Err x → (called s call).1 ≡ s

-- a state that a buffer can hold: the sizes of its lists, and values that are bytes
pub record FitsBuffer (s : State) : Type 0 where
  pub description_size : length s.description ≡ longest_description
  pub values_size : length s.hearing.values ≡ 2 ^ largest_n
  pub bytes : (i : ℕ) → get_or s.hearing.values i 0 < 256

-- Refusal 40 is for what no list of calls leaves: a state that is not refused is left by some adds, from a fresh hearing of its description.
-- `left_by_some` of proofs/Left.antt. That what calls leave is not refused is `Holds.code_is`.
abbrev pub LeftBySome : Type 0
LeftBySome = (s : State) (c : Code) → FitsBuffer s → code_of_state s ≡ Ok c → (calls : List Call) × (after (opened (description_of s)).1 calls ≡ s)

-- So are the bytes of a buffer whose state is not refused: `bytes_left` of proofs/Left.antt.
abbrev pub BytesLeft : Type 0
BytesLeft =
    (b : List ℕ) (c : Code) → length b ≡ hearing_size → ((i : ℕ) → get_or b i 0 < 256) → code_of_state (state_in b) ≡ Ok c
    → (calls : List Call) × (bytes_of (after (opened (description_of (state_in b))).1 calls) ≡ b)
