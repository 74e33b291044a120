-- What the theorems of this crate state of its definitions.
use Rattle.std.specs.Prelude.{◌≡◌, false, List, ℕ, ◌≤◌, ◌<◌, T, Float, length}
use Rattle.std.specs.Float.Ieee.{lt, is_nan}
use Rattle.quantiser_level.specs.Level.{plus_zero, magnitude}
use Rattle.quantiser.specs.Quantise.{first_nan, valid_scale}

-- None of refusals 20 to 22 applies. The quantiser accepts exactly then: `well_formed_exactly` of proofs/WellFormed.antt.
pub record WellFormed (scale : Float) (samples : List Float) (output : List ℕ) : Type 0 where
  -- not 20
  pub same_length : length samples ≡ length output
  -- not 21
  pub scale_valid : T (valid_scale scale)
  -- not 22
  pub all_numbers : length samples ≤ first_nan samples

-- x does not exceed y, for two numbers
abbrev pub Under : Float → Float → Type 0
Under x y = lt y x ≡ false

-- the peak of n products; `peak_largest` of proofs/Accepted.antt proves it
pub record Peak (p : ℕ → Float) (n : ℕ) (peak : Float) : Type 0 where
  -- it is a number
  pub number : is_nan peak ≡ false
  -- positive zero if n is 0
  pub none : n ≡ 0 → peak ≡ plus_zero
  -- else one of the magnitudes
  pub reached : 0 < n → (k : ℕ) × (k < n) × (peak ≡ magnitude (p k))
  -- no magnitude exceeds it
  pub above : (k : ℕ) → k < n → Under (magnitude (p k)) peak
