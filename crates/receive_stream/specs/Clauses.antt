-- What only contracts below the public operations cite. Nothing here need be believed.
use Rattle.std.specs.Prelude.{◌≡◌, cond, List, [], ◌++◌, ℕ, ◌+◌, ◌-◌, ◌*◌, ◌≤◌, ◌<◌, ltb, eqb, length, take}
use Rattle.code.specs.Description.{word}
use Rattle.receive_lines.specs.Clauses.{longest_line}
use Rattle.receive_record.specs.Respond.{responded}
use Rattle.receive_stream.specs.declared.Ahead.{Ahead}
use Rattle.receive_stream.specs.declared.Ahead.TheVariants.{Whole, Missing, Short}
use Rattle.receive_stream.specs.declared.Stream.{Stream}
use Rattle.receive_stream.specs.Stream.{printed_from}

-- room for what one step prints: a record's line, or `cut` and `end`
abbrev pub room : ℕ
room = 2 * longest_line

-- the length of a record is a word
abbrev pub longest_record : ℕ
longest_record = 65535

-- turns are counted by a u64
abbrev pub most_turns : ℕ
most_turns = 18446744073709551615

-- the state before the first read
abbrev pub starting : Stream
starting = record { there = 0; wanted = 4; held = 0; count = 0; turns = 0; waiting = 0; ready = 0 }

-- what is known of a record from the bytes read so far
abbrev pub ahead_of : List ℕ → Ahead
ahead_of bytes =
    cond (ltb (length bytes) 4) (Missing (4 - length bytes))
    (cond (ltb (word bytes 0) 4) Short (cond (ltb (length bytes) (word bytes 0)) (Missing (word bytes 0 - length bytes)) Whole))

-- what is missing fits the longest record
abbrev pub Fits : List ℕ → Ahead → Type 0
Fits bytes Whole = Unit
Fits bytes (Missing n) = length bytes + n ≤ longest_record
Fits bytes Short = Unit

-- how many of the waiting bytes are written now, in an output of `size` bytes: all or none, and what still waits leaves room for a step
pub record ReadyPost (waiting size ready : ℕ) : Type 0 where
  pub most : ready ≤ waiting
  pub splits : (output : List ℕ) → take ready output ++ take (waiting - ready) output ≡ take waiting output
  pub leaves : room ≤ size → waiting - ready + room ≤ size

-- what `respond_to` asks
pub record RespondToPre (longest : ℕ) (s : Stream) (bytes held output : List ℕ) : Type 0 where
  pub header : 4 ≤ length bytes
  pub held_most : s.held ≤ length held
  pub held_room : longest ≤ length held
  pub output_room : s.waiting + room ≤ length output
  pub counts : s.count ≤ s.turns
  pub turns_most : s.turns < most_turns

-- what `respond_to` answers: the record's line after what waited, and the held description, in the buffers as they are afterwards
pub record RespondToPost (s : Stream) (bytes held output held' output' : List ℕ) (s' : Stream) : Type 0 where
  pub there_is : s'.there ≡ 0
  pub wanted_is : s'.wanted ≡ 4
  pub count_is : s'.count ≡ s.count + 1
  pub turns_is : s'.turns ≡ s.turns + 1
  pub held_most : s'.held ≤ length held'
  pub held_is : take s'.held held' ≡ (responded (take s.held held) bytes).1
  pub ready_most : s'.ready ≤ length output'
  pub output_room : s'.waiting + room ≤ length output'
  pub lines_are : take s'.ready output' ++ take s'.waiting output'
      ≡ take s.waiting output ++ (responded (take s.held held) bytes).0

-- the stream is over: `text` is written after what waited
pub record EndPost (s : Stream) (text output output' : List ℕ) (s' : Stream) : Type 0 where
  pub there_is : s'.there ≡ 0
  pub wanted_is : s'.wanted ≡ 0
  pub held_is : s'.held ≡ s.held
  pub count_is : s'.count ≡ s.count
  pub turns_is : s'.turns ≡ s.turns + 1
  pub waiting_is : s'.waiting ≡ 0
  pub same_size : length output' ≡ length output
  pub ready_most : s'.ready ≤ length output'
  pub lines_are : take s'.ready output' ≡ take s.waiting output ++ text

-- between two reads: `partial` are the bytes of the current record read so far
pub record Between (s : Stream) (partial held output : List ℕ) : Type 0 where
  pub there_is : length partial ≡ s.there
  pub wanted_is : 0 < s.wanted → ahead_of partial ≡ Missing s.wanted
  pub wanted_fits : s.there + s.wanted ≤ longest_record
  pub held_most : s.held ≤ length held
  pub counts : s.count ≤ s.turns
  pub output_room : s.waiting + room ≤ length output

-- what remains to be printed if `partial` has been read of the current record and `rest` is unread
abbrev pub yet_printed : Stream → List ℕ → List ℕ → List ℕ → List ℕ → List ℕ
yet_printed s partial held output rest = take s.waiting output ++ printed_from (take s.held held) s.count (partial ++ rest)

-- text, or nothing if the stream is over
abbrev pub unless_over : Stream → List ℕ → List ℕ
unless_over s text = cond (eqb s.wanted 0) [] text

-- what `advance` asks: `got` more bytes of the current record have been read
pub record AdvancePre (longest : ℕ) (s : Stream) (got : ℕ) (bytes held output : List ℕ) : Type 0 where
  pub between : Between s (take s.there bytes) held output
  pub going : 0 < s.wanted
  pub got_most : got ≤ s.wanted
  pub bytes_room : s.there + got ≤ length bytes
  pub held_room : longest ≤ length held
  pub turns_most : s.turns < most_turns

-- what `advance` answers
pub record AdvancePost (s : Stream) (got : ℕ) (bytes held output held' output' : List ℕ) (s' : Stream) : Type 0 where
  pub between : Between s' (take s'.there bytes) held' output'
  pub ready_most : s'.ready ≤ length output'
  pub turns_is : s'.turns ≡ s.turns + 1
  -- if no byte was read, the stream is over
  pub ends : got ≡ 0 → s'.wanted ≡ 0
  -- For every unread `rest` (empty if nothing was read): what remained to be printed before the call equals what is written now, followed by
  -- what remains after it (nothing if the stream is over).
  pub prints : (rest : List ℕ) → (got ≡ 0 → rest ≡ [])
      → yet_printed s (take (s.there + got) bytes) held output rest
      ≡ take s'.ready output' ++ unless_over s' (yet_printed s' (take s'.there bytes) held' output' rest)
