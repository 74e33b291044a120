-- Bytes in hexadecimal: two digits a byte.
use mathlib.Core.Path.{◌≡◌, refl, ap, ◌∙◌}
use mathlib.Core.List.{List, [], ◌∷◌, ◌++◌}
use Prim.Native.Nat.{ℕ, ◌+◌, ◌*◌, ◌/◌, ◌%◌, ◌<◌}
use native.Mathlib.Numerals.{add-one}
use native.Mathlib.Omega.{arith}
use lib.ListN.{length, get_or, take}
use lib.Seq.{take-suc}
use Rattle.receive_lines.specs.Line.{hex, hex_digit}

pub length-hex : (bytes : List ℕ) → length (hex bytes) ≡ 2 * length bytes
length-hex [] = refl
length-hex (b ∷ bytes) = omega (arith, length-hex bytes)

hex-append : (bytes more : List ℕ) → hex (bytes ++ more) ≡ hex bytes ++ hex more
hex-append [] more = refl
hex-append (b ∷ bytes) more = ap (λ (ds : List ℕ). hex_digit (b / 16) ∷ hex_digit (b % 16) ∷ ds) (hex-append bytes more)

-- one byte more
pub hex-next : (bytes : List ℕ) (i : ℕ) → i < length bytes → hex (take (i + 1) bytes) ≡ hex (take i bytes) ++ (hex_digit (get_or bytes i 0 / 16) ∷ hex_digit (get_or bytes i 0 % 16) ∷ [])
hex-next bytes i h =
    ap (λ (k : ℕ). hex (take k bytes)) (add-one i) ∙ ap hex (take-suc bytes i 0 h) ∙ hex-append (take i bytes) (get_or bytes i 0 ∷ [])
