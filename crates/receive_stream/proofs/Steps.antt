-- What each way of going on prints, from what is known of the current record.
use mathlib.Core.Path.{◌≡◌, sym, ap, ap₂, ◌∙◌, subst}
use mathlib.Core.Bool.{Bool, cond}
use mathlib.Core.Logic.{⊎_elim}
use mathlib.Core.List.{List, [], ◌++◌, append_assoc, append-nil}
use Prim.Native.Nat.{ℕ, ◌+◌, ◌≤◌}
use native.Mathlib.Omega.{arith}
use borrow.Author.Tests.{eq-eqb, ne_eqb}
use lib.ListN.{length, take, drop, length-append, length-take}
use lib.Seq.{length-take-le, take-add}
use Rattle.code.specs.Description.{word}
use Rattle.receive_lines.specs.Line.{cut_line, end_line}
use Rattle.receive_record.specs.Respond.{responded}
use Rattle.receive_stream.specs.declared.Ahead.TheVariants.{Whole, Missing, Short}
use Rattle.receive_stream.specs.declared.Stream.{Stream}
use Rattle.receive_stream.specs.Stream.{printed_from}
use Rattle.receive_stream.specs.Claims.{IsRecord}
use Rattle.receive_stream.specs.Clauses.{ahead_of, RespondToPost, EndPost, yet_printed, unless_over, AdvancePre, AdvancePost}
use Rattle.receive_stream.proofs.Whole.{none-whole, word-append}
use Rattle.receive_stream.proofs.Printed.{printed-end, printed_cut, printed-first}
use Rattle.receive_stream.proofs.Says.{says, within}

-- ---- what has been read and what has not

-- a whole record: it has no byte more than its length
is_record : (bytes : List ℕ) → ahead_of bytes ≡ Whole → (4 ≤ word bytes 0 → length bytes ≤ word bytes 0) → IsRecord bytes
is_record bytes e f = let s = says bytes Whole e in record { least = s.0; length_is = omega (arith, f s.1) }

module _ (held : List ℕ) (count : ℕ) (bytes : List ℕ) where
  -- a length below 4, whatever follows
  short_cut : (rest : List ℕ) → ahead_of bytes ≡ Short → printed_from held count (bytes ++ rest) ≡ cut_line ++ end_line count
  short_cut rest e =
      let s = says bytes Short e in
      printed_cut held count (bytes ++ rest) (none-whole (bytes ++ rest) (λ w. omega (arith, w.least, word-append bytes rest s.0))) (λ z. omega (arith, length-append bytes rest))

  -- the input ends inside a record
  missing_cut : {n : ℕ} → ahead_of bytes ≡ Missing n → (length bytes ≡ 0 → ⊥) → printed_from held count bytes ≡ cut_line ++ end_line count
  missing_cut {n} e some =
      printed_cut held count bytes (none-whole bytes (λ w. ⊎_elim (λ x. omega (arith, w.header)) (λ x. omega (arith, w.most)) (says bytes (Missing n) e))) some

-- ---- the steps

module _ {longest : ℕ} (s : Stream) (got : ℕ) (bytes held output : List ℕ) (pre : AdvancePre longest s got bytes held output) where
  -- the bytes of the record once `got` more have been read
  abbrev there : List ℕ
  there = take (s.there + got) bytes

  abbrev printing : List ℕ → List ℕ
  printing rest = printed_from (take s.held held) s.count (there ++ rest)

  -- no byte of the next record has been read
  none-there : (s' : Stream) → s'.there ≡ 0 → length (take s'.there bytes) ≡ s'.there
  none-there s' e = ap (λ (n : ℕ). length (take n bytes)) e ∙ sym e

  pub record_there : ahead_of there ≡ Whole → IsRecord there
  record_there e =
      let old = take s.there bytes in
      let more = take got (drop s.there bytes) in
      let parts : take (s.there + got) bytes ≡ take s.there bytes ++ take got (drop s.there bytes) = take-add s.there got bytes in
      let missing = pre.between.wanted_is pre.going in
      let few-more : length (take got (drop s.there bytes)) ≤ s.wanted = omega (arith, length-take got (drop s.there bytes), pre.got_most) in
      is_record there e
      (λ l. subst (λ (x : List ℕ). length x ≤ word x 0) (sym parts) (within old more missing few-more (subst (λ (x : List ℕ). 4 ≤ word x 0) parts l)))

  -- with no byte read it is not whole yet
  not_yet : ahead_of there ≡ Whole → got ≡ 0 → ⊥
  not_yet e none =
      let same : s.there + got ≡ s.there = omega arith in
      let old : ahead_of (take (s.there + got) bytes) ≡ Missing s.wanted = ap (λ (n : ℕ). ahead_of (take n bytes)) same ∙ pre.between.wanted_is pre.going in
      let z : ◌≡◌ {A = ℕ} 0 1 = cc in
      omega arith

  pub advance_whole : {held' output' : List ℕ} {s' : Stream} → ahead_of there ≡ Whole → RespondToPost s there held output held' output' s' → AdvancePost s got bytes held output held' output' s'
  advance_whole {held'} {output'} {s'} e p = record {
    between = record {
      there_is = none-there s' p.there_is;
      wanted_is = λ l. ap (λ (n : ℕ). ahead_of (take n bytes)) p.there_is ∙ ap Missing (sym p.wanted_is);
      wanted_fits = omega (arith, p.there_is, p.wanted_is);
      held_most = p.held_most;
      counts = omega (arith, p.count_is, p.turns_is, pre.between.counts);
      output_room = p.output_room;
    };
    ready_most = p.ready_most;
    turns_is = p.turns_is;
    ends = λ none. absurd (not_yet e none);
    prints = λ rest _. prints rest;
  }
    where
      prints : (rest : List ℕ) → take s.waiting output ++ printing rest ≡ take s'.ready output' ++ unless_over s' (yet_printed s' (take s'.there bytes) held' output' rest)
      prints rest =
          let a = responded (take s.held held) there in
          let behind = printed_from a.1 (s.count + 1) rest in
          ap (λ (x : List ℕ). take s.waiting output ++ x) (printed-first (take s.held held) s.count there rest (record_there e))
          ∙ sym (append_assoc (take s.waiting output) a.0 behind)
          ∙ ap (λ (x : List ℕ). x ++ behind) (sym p.lines_are)
          ∙ append_assoc (take s'.ready output') (take s'.waiting output') behind
          ∙ ap₂ (λ (x : List ℕ) (k : ℕ). take s'.ready output' ++ (take s'.waiting output' ++ printed_from x k rest)) (sym p.held_is) (sym p.count_is)
          ∙ ap (λ (n : ℕ). take s'.ready output' ++ yet_printed s' (take n bytes) held' output' rest) (sym p.there_is)
          ∙ ap (λ (t : Bool). take s'.ready output' ++ cond t [] (yet_printed s' (take s'.there bytes) held' output' rest)) (sym (ne_eqb s'.wanted 0 (λ z. omega (arith, p.wanted_is))))

  -- the stream is over
  advance_over : {text output' : List ℕ} {s' : Stream} → EndPost s text output output' s' → ((rest : List ℕ) → (got ≡ 0 → rest ≡ []) → printing rest ≡ text) → AdvancePost s got bytes held output held output' s'
  advance_over {text} {output'} {s'} p f = record {
    between = record {
      there_is = none-there s' p.there_is;
      wanted_is = λ l. absurd (omega (arith, p.wanted_is));
      wanted_fits = omega (arith, p.there_is, p.wanted_is);
      held_most = omega (arith, p.held_is, pre.between.held_most);
      counts = omega (arith, p.count_is, p.turns_is, pre.between.counts);
      output_room = omega (arith, p.waiting_is, p.same_size, pre.between.output_room);
    };
    ready_most = p.ready_most;
    turns_is = p.turns_is;
    ends = λ _. p.wanted_is;
    prints = λ rest ends. ap (λ (x : List ℕ). take s.waiting output ++ x) (f rest ends) ∙ sym p.lines_are ∙ sym (append-nil (take s'.ready output'))
        ∙ ap (λ (t : Bool). take s'.ready output' ++ cond t [] (yet_printed s' (take s'.there bytes) held output' rest)) (sym (eq-eqb s'.wanted 0 p.wanted_is));
  }

  pub advance_short : {output' : List ℕ} {s' : Stream} → ahead_of there ≡ Short → EndPost s (cut_line ++ end_line s.count) output output' s' → AdvancePost s got bytes held output held output' s'
  advance_short e p = advance_over p (λ rest _. short_cut (take s.held held) s.count there rest e)

  pub advance_cut : {output' : List ℕ} {s' : Stream} {n : ℕ} → ahead_of there ≡ Missing n → got ≡ 0 → (s.there + got ≡ 0 → ⊥) → EndPost s (cut_line ++ end_line s.count) output output' s' → AdvancePost s got bytes held output held output' s'
  advance_cut e none some p =
      advance_over p
      (λ rest ends.
      ap (λ (x : List ℕ). printing x) (ends none) ∙ ap (λ (x : List ℕ). printed_from (take s.held held) s.count x) (append-nil there)
      ∙ missing_cut (take s.held held) s.count there e (λ z. some (omega (arith, length-take-le (s.there + got) bytes pre.bytes_room))))

  pub advance_end : {output' : List ℕ} {s' : Stream} → s.there + got ≡ 0 → EndPost s (end_line s.count) output output' s' → AdvancePost s got bytes held output held output' s'
  advance_end none p =
      advance_over p
      (λ rest ends.
      ap₂ (λ (n : ℕ) (x : List ℕ). printed_from (take s.held held) s.count (take n bytes ++ x)) none (ends (omega arith))
      ∙ printed-end (take s.held held) s.count)
