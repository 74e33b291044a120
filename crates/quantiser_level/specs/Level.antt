-- Document 01, "Sample quantiser": what becomes of one product p. A finite p is ±m · 2^e, and 2^e is the fraction up e / down e.
use Rattle.std.specs.Prelude.{Bool, false, cond, ℕ, ◌+◌, ◌*◌, ◌/◌, ltb, Float, ℤ, pos, neg_ℤ, nat_abs}
use Rattle.std.specs.Float.{nan, inf, fin}
use Rattle.std.specs.Float.Ieee.{up, down, lt}
use Rattle.channel.specs.Channel.{byte_of, clip}
use Rattle.quantiser_level.specs.declared.Level.{Level}

-- positive zero
abbrev pub plus_zero : Float
plus_zero = fin false 0 (pos 0)

-- p without its sign
unfoldable pub magnitude : Float → Float
magnitude nan = nan
magnitude (inf s) = inf false
magnitude (fin s m e) = fin false m e

-- the whole number nearest to a / d, halves up: the whole part of a / d + 1/2
abbrev pub nearest : ℕ → ℕ → ℕ
nearest a d = (2 * a + d) / (2 * d)

-- the whole number nearest to the exact value of 4|p|. An infinite p counts as 32, so it is clipped, to 31 with its sign. A sample
-- that is not a number is refused before.
unfoldable pub quarters : Float → ℕ
quarters nan = 0
quarters (inf s) = 32
quarters (fin s m e) = nearest (4 * (m * up e)) (down e)

-- n or −n
abbrev pub signed : Bool → ℕ → ℤ
signed negative n = cond negative (neg_ℤ (pos n)) (pos n)

-- the whole number nearest to 4p, halves away from zero
unfoldable pub whole : Float → ℤ
whole p = signed (lt p plus_zero) (quarters p)

-- the whole number that the output byte stands for
unfoldable pub level : Float → ℤ
level p = clip (whole p)

-- whether the nearest whole number lies outside −31..31
unfoldable pub is_clipped : Float → Bool
is_clipped p = ltb 31 (nat_abs (whole p))

-- what becomes of p: its byte, 1 if it is clipped, else 0, and its magnitude
abbrev pub level_of : Float → Level
level_of p = record { byte = byte_of (level p); clipped = cond (is_clipped p) 1 0; magnitude = magnitude p }
