-- `receive_frame::put_channel` meets its contract: refusals 23 and 24, then the line of decoding.
use Rattle.std.proofs.Common.{◌≡◌, sym, ap₂, ◌∙◌, List, [], ◌∷◌, ℕ, false, eqb, ltb, length, drop, length-drop}
use native.Mathlib.Nat.{le_of_eq}
use borrow.Author.Tests.{eq-eqb, ne_eqb, lt-ltb, le-ltb}
use lib.Seq.{take_all}
use Rattle.refusal.specs.declared.Refusal.{Refusal}
use Rattle.refusal.specs.declared.Refusal.TheVariants.{NoDescription, ShortRecord}
use Rattle.refusal.specs.Judge.{judge, refused_or, number_of}
use Rattle.refusal.proofs.Judge.{at_test, past-test, past_all}
use Rattle.code.specs.Description.{word}
use Rattle.receive_lines.specs.Line.{no_line}
use Rattle.receive_lines.proofs.Putting.{put_as}
use Rattle.receive_frame.specs.Frame.{decoding_line, channel_line}
use Rattle.receive_frame.proofs.put_channel.Goals as goal

abbrev refuse : Refusal → List ℕ
refuse x = no_line (number_of x)

-- the line after both refusals, and after the first
abbrev decoding : List ℕ → List ℕ → List ℕ
decoding held bytes = decoding_line held (drop 6 bytes) (word bytes 4)

abbrev past : List ℕ → List ℕ → List ℕ
past held bytes = refused_or (judge ((ltb (length bytes) 6, ShortRecord) ∷ [])) refuse (decoding held bytes)

-- a description is held
past-1 : (held bytes : List ℕ) → eqb (length held) 0 ≡ false → channel_line held bytes ≡ past held bytes
unfolding channel_line
past-1 held bytes e = past-test refuse _ _ NoDescription _ e

pub returns-then-held-eq0 : goal.returns-then-held-eq0
unfolding channel_line
returns-then-held-eq0 c = put_as c.put_refusal.ensures _ (at_test refuse _ _ NoDescription _ (eq-eqb _ _ c.if-held-eq0.true))

pub returns-then-bytes-lt6 : goal.returns-then-bytes-lt6
returns-then-bytes-lt6 c =
    let x = c.args in
    put_as c.put_refusal-then-bytes-lt6.ensures _
    (at_test refuse _ _ ShortRecord [] (lt-ltb _ _ c.if-bytes-lt6.true) ∙ sym (past-1 x.held.now x.bytes.now (ne_eqb _ _ c.if-held-eq0.false)))

pub returns : goal.returns
returns c =
    let x = c.args in
    let bytes = x.bytes.now in
    put_as c.put_decoding.ensures _
    (ap₂ (decoding_line x.held.now) (take_all _ _ (le_of_eq (length-drop 6 bytes))) c.read_word-limit.ensures
    ∙ sym (past-1 x.held.now bytes (ne_eqb _ _ c.if-held-eq0.false) ∙ past-test refuse _ _ ShortRecord [] (le-ltb _ _ c.if-bytes-lt6.false) ∙ past_all refuse _))
