-- What only contracts below the public operations cite. Nothing here need be believed.
use Rattle.std.specs.Prelude.{◌≡◌, cond, List, ℕ, ◌≤◌, eqb, length, take}
use Rattle.code.specs.Description.{word, is_description}
use Rattle.receive_record.specs.declared.held.Held.{Held}
use Rattle.receive_record.specs.declared.kind.Kind.{Kind}
use Rattle.receive_record.specs.declared.kind.Kind.TheVariants.{Description, Channel, Other}
use Rattle.receive_record.specs.declared.Header.{Header}

-- the description that is held
abbrev pub held_bytes : Held → List ℕ
held_bytes held = take held.size held.buffer.now

-- what a record of a kind is
abbrev pub kind_of : ℕ → Kind
kind_of number = cond (is_description number) (Description number) (cond (eqb number 2) Channel (Other number))

-- a record starts with its length in bytes, header included, then its kind
abbrev pub header_of : List ℕ → Header
header_of bytes = record { length = word bytes 0; kind = kind_of (word bytes 2) }

-- what `respond` answers: the length of the line in its buffer, and what is held then, in the same buffer as before
pub record RespondPost (before : Held) (answer : List ℕ × List ℕ) (line : List ℕ) (after : Held) (end : ℕ) : Type 0 where
  pub same_buffer : after.buffer.ghost_name ≡ before.buffer.ghost_name
  pub line_fits : end ≤ length line
  pub answer_is : (take end line, held_bytes after) ≡ answer
