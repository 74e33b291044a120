use Rattle.std.proofs.Common.{◌≡◌, false, List, ℕ, ◌+◌, ◌-◌, ◌<◌, get_or, drop, sym, ap, ◌∙◌, arith, rules}
use Rattle.std.proofs.lemmas.Bool.{false_from_ne_true}
use Rattle.std.proofs.lemmas.List.{take_rest}
use Rattle.bits.specs.Bit.{bit, bits_of}
use Rattle.bits.proofs.BitsOf.{bits_of-from, get_or-bits_of}
use Rattle.crc.specs.Check.{same}
use Rattle.crc.proofs.Message.{same_iff}
use Rattle.crc.proofs.holds_bits.Goals as goal

-- a list with a bit that is not the number's
other : (xs : List ℕ) (w x j : ℕ) → j < w → (get_or xs j 0 ≡ bit x (w - (j + 1)) → ⊥) → false ≡ same xs (bits_of w x)
other xs w x j l differs =
    sym (false_from_ne_true (same xs (bits_of w x))
    (λ e. differs (ap (λ (ys : List ℕ). get_or ys j 0) ((same_iff xs (bits_of w x)).0 e) ∙ get_or-bits_of w x j l)))

pub returns-then-bit-coefficient : goal.returns-then-bit-coefficient
returns-then-bit-coefficient c =
    let a = c.args in
    let rest = take_rest a.message.now a.at in
    let inside : c.loop-j.j < a.r = search rules in
    let place : a.r - 1 - c.loop-j.j ≡ a.r - (c.loop-j.j + 1) = omega arith in
    other (drop a.at a.message.now) a.r a.register c.loop-j.j inside
    (λ e. c.if-bit-coefficient.true (ap (λ (ys : List ℕ). get_or ys c.loop-j.j 0) rest ∙ e ∙ sym (c.coefficient.ensures ∙ ap (bit a.register) place)))

pub returns : goal.returns
returns c =
    let a = c.args in
    let rest = take_rest a.message.now a.at in
    sym ((same_iff _ _).1 (sym rest ∙ bits_of-from a.r a.register _ (omega arith) (λ k l. c.loop-j.invariant k (omega arith))))
