-- What the program writes: all that the input prints, in at most one turn for each byte and one more. And every input has a run if `advance` answers.
use mathlib.Core.Path.{◌≡◌, refl, sym, ap, ◌∙◌, subst}
use mathlib.Core.Bool.{Bool, cond}
use mathlib.Core.List.{List, [], ◌∷◌, ◌++◌, append_assoc, append-nil}
use Prim.Native.Nat.{ℕ, zero, suc, ◌+◌, ◌≤◌, ◌<◌}
use native.Mathlib.Omega.{arith}
use borrow.Author.Tests.{eq-eqb, ne_eqb}
use lib.ListN.{length, take, drop, length-append, length-take, length-drop, take-append-drop}
use lib.Seq.{take-add}
use Rattle.laws.specs.Clauses.{splice}
use Rattle.laws.proofs.Indices.{lt_cases}
use Rattle.laws.proofs.Segment.{take-splice, segment-splice, length-splice}
use Rattle.receive_lines.specs.Line.{decimal_in, end_line}
use Rattle.receive_record.specs.Respond.{responded}
use Rattle.receive_stream.specs.declared.Stream.{Stream}
use Rattle.receive_stream.specs.Stream.{records_in, responses, printed_from, printed}
use Rattle.receive_stream.specs.Program.{Run, over, turn}
use Rattle.receive_stream.specs.Clauses.{room, longest_record, most_turns, starting, EndPost, Between, yet_printed, unless_over, AdvancePre, AdvancePost}
use Rattle.receive_stream.proofs.Steps.{advance_end}

run_yet : {turns : ℕ} {s : Stream} {bytes held output input text : List ℕ} → Run AdvancePost turns s bytes held output input text → text ≡ unless_over s (yet_printed s (take s.there bytes) held output input)
run_yet {s = s} {bytes} {held} {output} {input} (over e) = ap (λ (t : Bool). cond t [] (yet_printed s (take s.there bytes) held output input)) (sym (eq-eqb s.wanted 0 e))
run_yet {s = s} {bytes} {held} {output} (turn {s' = s'} {output' = output'} piece rest some few ends size read p r) =
    ap (λ (x : List ℕ). take s'.ready output' ++ x) (run_yet r)
    ∙ sym (p.prints rest ends)
    ∙ ap (λ (x : List ℕ). take s.waiting output ++ printed_from (take s.held held) s.count x)
    (ap (λ (x : List ℕ). x ++ rest) read ∙ append_assoc (take s.there bytes) piece rest)
    ∙ ap (λ (t : Bool). cond t [] (yet_printed s (take s.there bytes) held output (piece ++ rest))) (sym (ne_eqb s.wanted 0 (λ z. omega arith)))

-- a turn that reads nothing is the last
turns_most : {turns : ℕ} {s : Stream} {bytes held output input text : List ℕ} → Run AdvancePost turns s bytes held output input text → turns ≤ length input + 1
turns_most (over e) = omega arith
turns_most (turn [] rest some few ends size read p (over e)) = omega arith
turns_most (turn [] rest some few ends size read p (turn piece rest' some' few' ends' size' read' p' r)) = absurd (omega (arith, p.ends refl))
turns_most (turn (x ∷ piece) rest some few ends size read p r) = omega (arith, turns_most r, length-append (x ∷ piece) rest)

-- from the start on: the text is what the input prints, in at most one turn for each byte and one more
pub run-printed : {turns : ℕ} {bytes held output input text : List ℕ} → Run AdvancePost turns starting bytes held output input text → (text ≡ printed input) × (turns ≤ length input + 1)
run-printed r = (run_yet r, turns_most r)

-- ---- an input has a run if `advance` answers as its contract says, by any rule of how many of the wanted bytes come in a turn

-- what had been read, and the piece after it
there_and_piece : (bytes piece : List ℕ) (at : ℕ) → at + length piece ≤ length bytes → take (at + length piece) (splice bytes at piece) ≡ take at bytes ++ piece
there_and_piece bytes piece at l =
    take-add at (length piece) (splice bytes at piece)
    ∙ ap (λ (x : List ℕ). x ++ take (length piece) (drop at (splice bytes at piece))) (take-splice bytes at piece (length piece) refl l)
    ∙ ap (λ (x : List ℕ). take at bytes ++ x) (segment-splice bytes at piece (length piece) refl l)

-- before the first read
pub starts : (held output : List ℕ) → room ≤ length output → Between starting [] held output
starts held output k = record { there_is = refl; wanted_is = λ _. refl; wanted_fits = omega arith; held_most = omega arith; counts = omega arith; output_room = k }

-- what `advance` promises: if its conditions hold it answers, and its buffers keep their sizes
abbrev AdvanceAnswers : ℕ → Type 0
AdvanceAnswers longest =
    (s : Stream) (got : ℕ) (bytes held output : List ℕ) → AdvancePre longest s got bytes held output
    → (held' : List ℕ) × (output' : List ℕ) × (s' : Stream) × (length held' ≡ length held) × AdvancePost s got bytes held output held' output' s'

-- a state from which a run can go on
record CanRun (longest : ℕ) (s : Stream) (bytes held output input : List ℕ) : Type 0 where
  between : Between s (take s.there bytes) held output
  record_room : longest_record ≤ length bytes
  held_room : longest ≤ length held
  turns_room : 0 < s.wanted → s.turns + length input < most_turns

abbrev Runs : Stream → List ℕ → List ℕ → List ℕ → List ℕ → Type 0
Runs s bytes held output input = (turns : ℕ) × (text : List ℕ) × Run AdvancePost turns s bytes held output input text

module _ {longest : ℕ} (answers : AdvanceAnswers longest) (size : ℕ → ℕ) (some : (wanted : ℕ) → 0 < wanted → (0 < size wanted) × (size wanted ≤ wanted)) where
  -- the input is at its end
  last_turn : (s : Stream) (bytes held output : List ℕ) → 0 < s.wanted → CanRun longest s bytes held output [] → Runs s bytes held output []
  last_turn s bytes held output going can =
      let same : s.there + 0 ≡ s.there = omega arith in
      let read : take (s.there + 0) bytes ≡ take s.there bytes ++ [] = ap (λ (n : ℕ). take n bytes) same ∙ sym (append-nil (take s.there bytes)) in
      let a =
      answers s 0 bytes held output
      (record {
        between = can.between;
        going = going;
        got_most = omega arith;
        bytes_room = omega (arith, can.between.wanted_fits, can.record_room);
        held_room = can.held_room;
        turns_most = omega (arith, can.turns_room going);
      }) in
      (1, take a.2.ready a.1 ++ [], turn [] [] going (omega arith) (λ _. refl) refl read a.4 (over (a.4.ends refl)))

  -- a piece of it is read
  next-turn : (s : Stream) (bytes held output input : List ℕ) → 0 < s.wanted → 0 < length input → CanRun longest s bytes held output input
      → ((s' : Stream) (bytes' held' output' : List ℕ) → CanRun longest s' bytes' held' output' (drop (size s.wanted) input) → Runs s' bytes' held' output' (drop (size s.wanted) input))
      → Runs s bytes held output input
  next-turn s bytes held output input going more-input can more =
      let k = size s.wanted in
      let piece = take k input in
      let rest = drop k input in
      let fair = some s.wanted going in
      let long = length-take k input in
      let left = length-drop k input in
      let inside : s.there + length (take (size s.wanted) input) ≤ length bytes = omega (arith, can.between.wanted_fits, can.record_room) in
      let bytes' = splice bytes s.there piece in
      let same = length-splice bytes s.there piece (length piece) refl inside in
      let a =
      answers s (length piece) bytes' held output
      (record {
        between = subst (λ (x : List ℕ). Between s x held output) (sym (take-splice bytes s.there piece (length piece) refl inside)) can.between;
        going = going;
        got_most = omega arith;
        bytes_room = omega arith;
        held_room = can.held_room;
        turns_most = omega (arith, can.turns_room going);
      }) in
      let r =
      more a.2 bytes' a.0 a.1
      (record {
        between = a.4.between;
        record_room = omega (arith, can.record_room);
        held_room = omega (arith, a.3, can.held_room);
        turns_room = λ _. omega (arith, a.4.turns_is, can.turns_room going);
      }) in (
        suc r.0,
        take a.2.ready a.1 ++ r.1,
        subst (λ (x : List ℕ). Run AdvancePost (suc r.0) s bytes held output x (take a.2.ready a.1 ++ r.1)) (take-append-drop k input)
            (turn piece rest going (omega arith) (λ z. absurd (omega arith)) same (there_and_piece bytes piece s.there inside) a.4 r.2),
      )

  run_on : (fuel : ℕ) (input : List ℕ) → length input ≤ fuel → (s : Stream) (bytes held output : List ℕ) → CanRun longest s bytes held output input → Runs s bytes held output input
  run_on zero [] l s bytes held output can = lt_cases 0 s.wanted (λ going. last_turn s bytes held output going can) (λ z. (0, [], over (omega arith)))
  run_on zero (x ∷ input) l s bytes held output can = absurd (omega arith)
  run_on (suc fuel) [] l s bytes held output can = lt_cases 0 s.wanted (λ going. last_turn s bytes held output going can) (λ z. (0, [], over (omega arith)))
  run_on (suc fuel) (x ∷ input) l s bytes held output can =
      lt_cases 0 s.wanted
      (λ going.
      next-turn s bytes held output (x ∷ input) going (omega arith) can
      (λ s' bytes' held' output' can'. run_on fuel (drop (size s.wanted) (x ∷ input)) (omega (arith, (some s.wanted going).0, length-drop (size s.wanted) (x ∷ input))) s' bytes' held' output' can'))
      (λ z. (0, [], over (omega arith)))

  pub run_exists : (bytes held output input : List ℕ) → longest_record ≤ length bytes → longest ≤ length held → room ≤ length output → length input < most_turns → Runs starting bytes held output input
  run_exists bytes held output input l m k t =
      run_on (length input) input (omega arith) starting bytes held output
      (record {
        between = starts held output k;
        record_room = l;
        held_room = m;
        turns_room = λ _. omega arith;
      })

-- ---- an input of no bytes

-- every run on it writes `end 0` and a line feed, in at most one turn
pub empty_prints : {turns : ℕ} {bytes held output text : List ℕ} → Run AdvancePost turns starting bytes held output [] text
    → (text ≡ 0x65 ∷ 0x6E ∷ 0x64 ∷ 0x20 ∷ 0x30 ∷ 0x0A ∷ []) × (turns ≤ 1)
unfolding decimal_in records_in responses printed_from
empty_prints r = run-printed r

-- every run on a record of kind 9 writes `skip 9` and `end 1`, each with a line feed, in at most five turns
pub skip_prints : {turns : ℕ} {bytes held output text : List ℕ} → Run AdvancePost turns starting bytes held output (0x04 ∷ 0x00 ∷ 0x09 ∷ 0x00 ∷ []) text
    → (text ≡ 0x73 ∷ 0x6B ∷ 0x69 ∷ 0x70 ∷ 0x20 ∷ 0x39 ∷ 0x0A ∷ 0x65 ∷ 0x6E ∷ 0x64 ∷ 0x20 ∷ 0x31 ∷ 0x0A ∷ []) × (turns ≤ 5)
unfolding decimal_in responded records_in responses printed_from
skip_prints r = run-printed r

-- it has a run, with no more asked than room
module _ (bytes held output : List ℕ) (record_room : longest_record ≤ length bytes) (output_room : room ≤ length output) where
  -- the stream after the only turn: `end` is ready
  abbrev ended : Stream
  ended = record { there = 0; wanted = 0; held = 0; count = 0; turns = 1; waiting = 0; ready = length (end_line 0) }

  abbrev written : List ℕ
  written = splice output 0 (end_line 0)

  line_fits : 0 + length (end_line 0) ≤ length output
  unfolding decimal_in
  line_fits = omega arith

  same_size : length written ≡ length output
  same_size = length-splice output 0 (end_line 0) (length (end_line 0)) refl line_fits

  before : AdvancePre 0 starting 0 bytes held output
  before = record {
    between = starts held output output_room;
    going = omega arith;
    got_most = omega arith;
    bytes_room = omega arith;
    held_room = omega arith;
    turns_most = omega arith;
  }

  after : EndPost starting (end_line 0) output written ended
  after = record {
    there_is = refl;
    wanted_is = refl;
    held_is = refl;
    count_is = refl;
    turns_is = refl;
    waiting_is = refl;
    same_size = same_size;
    ready_most = omega (arith, same_size, line_fits);
    lines_are = segment-splice output 0 (end_line 0) (length (end_line 0)) refl line_fits;
  }

  pub run_empty : Run AdvancePost 1 starting bytes held output [] (take (length (end_line 0)) written ++ [])
  run_empty = turn {s = starting} {s' = ended} [] [] (omega arith) (omega arith) (λ _. refl) refl refl (advance_end starting 0 bytes held output before refl after) (over refl)

  -- what that run writes is what is printed for no bytes
  pub empty_printed : take (length (end_line 0)) written ++ [] ≡ printed []
  empty_printed = (run-printed run_empty).0
