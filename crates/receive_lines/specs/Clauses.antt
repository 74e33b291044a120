-- What only contracts below the public operations cite. Nothing here need be believed.
use Rattle.std.specs.Prelude.{◌≡◌, List, ◌++◌, ℕ, ◌+◌, ◌*◌, ◌≤◌, length}
use Rattle.laws.specs.Clauses.{splice}
use Rattle.arrays.specs.Claims.{longest_bytes}
use Rattle.receive_lines.specs.Text.{text}
use Rattle.receive_lines.specs.declared.Line.{Line}

-- a field after its space
abbrev pub spaced : List ℕ → List ℕ
spaced field = text " " ++ field

-- the longest line: `ok`, two numbers of at most 20 digits, a payload in hexadecimal, a space before each, and the line feed
abbrev pub longest_line : ℕ
longest_line = 2 + 2 * 21 + 1 + 2 * longest_bytes + 1

-- the buffer `before` is `after` once `text` is put from index `at` on, and `next` is the index after the text
pub record PutPost (before : List ℕ) (at : ℕ) (text after : List ℕ) (next : ℕ) : Type 0 where
  pub next_is : next ≡ at + length text
  pub fits : next ≤ length before
  pub after_is : after ≡ splice before at text

-- room for n more bytes in a line's buffer
abbrev pub Room : Line → ℕ → Type 0
Room line n = line.end + n ≤ length line.buffer.now

-- the line `before` is `after` once `text` is put behind it, in the same buffer
pub record Put (before : Line) (text : List ℕ) (after : Line) : Type 0 where
  pub same_buffer : after.buffer.ghost_name ≡ before.buffer.ghost_name
  pub same_size : length after.buffer.now ≡ length before.buffer.now
  pub put : PutPost before.buffer.now before.end text after.buffer.now after.end
