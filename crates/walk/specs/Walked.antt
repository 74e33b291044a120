-- Document 02, request 2.5: looks at the mask, added up at each look, and the count of ones that is kept on the way.
use Rattle.std.specs.Prelude.{◌≡◌, List, ℕ, zero, suc, ◌+◌}
use Rattle.bits.specs.Mask.{mask_bit, ones_below}
use Rattle.walk.specs.declared.Walk.{Walk}

-- nothing is looked at
abbrev pub at_start : Walk
at_start = record { looks = 0; ones = 0 }

-- one look more: at the bit whose index is the number of looks before it
abbrev pub looked : List ℕ → Walk → Walk
looked mask w = record { looks = w.looks + 1; ones = w.ones + mask_bit mask w.looks }

-- n looks
unfoldable pub walked : List ℕ → ℕ → Walk
walked mask zero = at_start
walked mask (suc n) = looked mask (walked mask n)

-- n looks are counted as n, and the ones are those of the indices below n: `walk_counts` of proofs/Walked.antt
abbrev pub WalkCounts : Type 0
WalkCounts = (mask : List ℕ) (n : ℕ) → ((walked mask n).looks ≡ n) × ((walked mask n).ones ≡ ones_below mask n)
