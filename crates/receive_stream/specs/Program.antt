-- Document 01, "Program `receive`": what the program does, turn by turn. No contract can speak of what is read and written: that the lines of
-- receive/src/main.rt run like this is to be believed, and tested.
use Rattle.std.specs.Prelude.{◌≡◌, List, [], ◌++◌, ℕ, zero, suc, ◌+◌, ◌≤◌, ◌<◌, length, take}
use Rattle.receive_stream.specs.declared.Stream.{Stream}

-- `Run Step turns s bytes held output input text`: from the stream s on, the program reads `input` in `turns` turns and writes `text`. In each
-- turn it reads a piece of the input, after the bytes of the current record read so far: at most what is wanted, and nothing only at the end of
-- the input. Then `advance` answers as `Step` says, from the bytes and from what `held` and `output` hold, and what is ready is written. The
-- program ends when nothing is wanted. `run-printed` of proofs/Program.antt says what the text is.
pub data Run (Step : Stream → ℕ → List ℕ → List ℕ → List ℕ → List ℕ → List ℕ → Stream → Type 0) : ℕ → Stream → List ℕ → List ℕ → List ℕ → List ℕ → List ℕ → Type 0 where
  -- nothing is wanted
  over : {s : Stream} {bytes held output input : List ℕ} → s.wanted ≡ 0 → Run Step zero s bytes held output input []
  -- one turn, and then the others
  turn : {turns : ℕ} {s s' : Stream} {bytes bytes' held output held' output' text : List ℕ} (piece rest : List ℕ)
      → 0 < s.wanted → length piece ≤ s.wanted → (length piece ≡ 0 → rest ≡ [])
      → length bytes' ≡ length bytes → take (s.there + length piece) bytes' ≡ take s.there bytes ++ piece
      → Step s (length piece) bytes' held output held' output' s'
      → Run Step turns s' bytes' held' output' rest text
      → Run Step (suc turns) s bytes held output (piece ++ rest) (take s'.ready output' ++ text)
