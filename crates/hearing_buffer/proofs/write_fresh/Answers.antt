use Rattle.std.proofs.Common.{◌≡◌, ◌+◌, ◌++◌, ◌-◌, length, take, drop, replicate, ℕ, List, ap, ◌∙◌, arith}
use Rattle.std.proofs.lemmas.List.{take_all}
use Rattle.laws.specs.Clauses.{splice}
use Rattle.hearing_buffer.proofs.Bytes.{fresh-bytes}
use Rattle.hearing_buffer.proofs.write_fresh.Goals as goal

-- a description at the beginning of a buffer
at_start : (b d : List ℕ) → splice b 0 d ≡ d ++ drop (length d) b
unfolding splice
at_start b d = let e : 0 + length d ≡ length d = omega arith in ap (λ (k : ℕ). d ++ drop k b) e

-- the description, and zeros after it
pub returns : goal.returns
returns c =
    let b = c.args.buffer.now in
    let d = c.args.description.now in
    c.clear_from.ensures
    ∙ ap (λ (l : List ℕ). take (length d) l ++ replicate (length l - length d) 0)
    (c.copy.ensures ∙ ap (splice b 0) (take_all (length d) d (omega arith)) ∙ at_start b d)
    ∙ fresh-bytes b d c.requires.1 c.requires.0
