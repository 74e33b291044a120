-- What only contracts below the public operations cite. Nothing here need be believed.
use Rattle.std.specs.Prelude.{List, ℕ, ◌≤◌, ◌<◌, length}
use Rattle.receive_stream.specs.declared.Stream.{Stream}
use Rattle.receive_stream.specs.Clauses.{room, longest_record, most_turns}

-- room for the longest record, for the longest description and for what one step prints, in buffers below 64 KiB
pub record Rooms (longest : ℕ) (bytes held output : List ℕ) : Type 0 where
  pub record_room : longest_record ≤ length bytes
  pub held_room : longest ≤ length held
  pub output_room : room ≤ length output
  pub record_most : length bytes < 65536
  pub held_most : length held < 65536
  pub output_most : length output < 65536

-- the stream is over, or has had all turns
pub record StreamOver (s : Stream) : Type 0 where
  pub over : 0 < s.wanted → most_turns ≤ s.turns
