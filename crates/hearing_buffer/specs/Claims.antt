-- What the theorems of this crate state of its definitions.
use Rattle.std.specs.Prelude.{◌≡◌, List, ℕ, ◌^◌, length}
use Rattle.arrays.specs.Sizes.{largest_n}
use Rattle.code.specs.Code.{longest_description}
use Rattle.hearing_state.specs.State.{State}
use Rattle.hearing_buffer.specs.Lent.{hearing_size, bytes_of, state_in}

-- a state that was written is read back, if its lists have the sizes of a buffer's parts: `read_written`
abbrev pub ReadWritten : Type 0
ReadWritten = (s : State) → length s.description ≡ longest_description → length s.hearing.values ≡ 2 ^ largest_n → state_in (bytes_of s) ≡ s

-- bytes that were read are written as they were: `Written-Read`
abbrev pub WrittenRead : Type 0
WrittenRead = (b : List ℕ) → length b ≡ hearing_size → bytes_of (state_in b) ≡ b
