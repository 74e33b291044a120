-- The buffers keep their sizes, and the stream is between two reads: one turn is one read.
use Rattle.std.proofs.Common.{◌≡◌, length, take}
use Rattle.receive_stream.specs.Clauses.{Between}
use Rattle.receive.proofs.receive.Given as goal

abbrev pub invariant-loop-turn : goal.invariant-loop-turn
invariant-loop-turn g l =
    (l.stream.turns ≡ l._turn)
    × (length l.bytes ≡ length l.initial.bytes)
    × (length l.held ≡ length l.initial.held)
    × (length l.output ≡ length l.initial.output)
    × Between l.stream (take l.stream.there l.bytes) l.held l.output
