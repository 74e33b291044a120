-- i bytes are written, and peak and count are those of i products.
use Rattle.std.proofs.Common.{◌≡◌, length}
use Rattle.laws.proofs.Filling.{Filling}
use Rattle.quantiser_level.specs.Level.{level_of}
use Rattle.quantiser.specs.Quantise.{product, peak_of, clipped_of}
use Rattle.quantiser.proofs.fill.Given as goal

abbrev pub invariant-loop-i : goal.invariant-loop-i
invariant-loop-i l =
    Filling (λ k. (level_of (product l.scale l.samples k)).byte) 0 (length l.initial.output) l.initial.output l.output l.i
    × (l.peak ≡ peak_of (product l.scale l.samples) l.i)
    × (l.clipped ≡ clipped_of (product l.scale l.samples) l.i)
