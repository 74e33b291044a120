-- What only contracts below the public operations cite. Nothing here need be believed.
use Rattle.std.specs.Prelude.{List, ℕ, Float, length, Ok, Result}
use Rattle.quantiser.specs.Quantise.{product, bytes, peak_of, clipped_of}
use Rattle.refusal.specs.declared.Refusal.{Refusal}
use Rattle.quantiser.specs.declared.Summary.{Summary}

-- what the quantiser answers: the summary of the products
abbrev pub Quantised : Type 0
Quantised = Result Summary Refusal

-- the answer and the output bytes if no refusal applies
abbrev pub accepted : Float → List Float → Quantised × List ℕ
accepted scale samples =
    let p = product scale samples in
    let n = length samples in
    (Ok (record { peak = peak_of p n; clipped = clipped_of p n }), bytes p n)
