-- What follows from the largest n for the sizes of arrays and for counts. proofs/Sizes.antt has the bounds.
use Rattle.std.specs.Prelude.{ℕ, ◌^◌, ◌/◌, ◌*◌, ◌+◌}
use Rattle.arrays.specs.Sizes.{largest_n}

-- the longest code
abbrev pub longest : ℕ
longest = 2 ^ largest_n

-- its bits, packed
abbrev pub longest_bytes : ℕ
longest_bytes = longest / 8

-- the steps of one pass, and the trials of one call
abbrev pub most_steps : ℕ
most_steps = largest_n * longest

abbrev pub most_trials : ℕ
most_trials = longest + 1
