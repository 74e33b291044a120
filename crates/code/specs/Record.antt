-- Document 02, request 2.6, holds a description in room for a longer one.
use Rattle.std.specs.Prelude.{List, ℕ, take}
use Rattle.code.specs.Description.{word}

-- the record at the beginning of some bytes: as many as its length field says, or all if there are fewer
abbrev pub record_in : List ℕ → List ℕ
record_in bytes = take (word bytes 0) bytes
