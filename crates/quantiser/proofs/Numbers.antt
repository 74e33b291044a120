-- A valid scale times a number is a number.
use mathlib.Core.Path.{◌≡◌}
use mathlib.Core.Bool.{Bool, true, false, not, true≢false}
use mathlib.Core.List.{List}
use Prim.Native.Nat.{ℕ, zero, suc, ◌+◌, ◌*◌, ◌^◌, ◌<◌}
use native.Mathlib.Omega.{arith}
use lib.Dec.{T, ltb, ltb→lt, eqb-suc-zero}
use lib.Ieee.{Float, nan, inf, fin, Format, binary32, prec, emax, low, up, down, odd, units, round, mul, lt, is_nan}
use lib.Ieee.Fits.{and_l}
use lib.ListN.{length, get_or}
use Rattle.laws.proofs.Choice.{cond_ind}
use Rattle.laws.proofs.First.{first-before}
use Rattle.quantiser.specs.Quantise.{product, valid_scale}
use Rattle.quantiser.specs.Claims.{WellFormed}

odd_number : (d : ℕ) (s : Bool) (q k l : ℕ) → T (not (is_nan (odd d s q k l)))
unfolding odd is_nan
odd_number d s zero k l = tt
odd_number d s (suc q) k l = tt

units_number : (f : Format) (s : Bool) (q k : ℕ) → T (not (is_nan (units f s q k)))
unfolding units is_nan
units_number f s q k =
    cond_ind (λ (v : Float). T (not (is_nan v))) (ltb (q * 2 ^ k) (2 ^ (low f + suc (emax f)))) (odd (suc (prec f)) s q k (low f)) (inf s)
    (λ t. odd_number (suc (prec f)) s q k (low f)) (λ t. tt)

round_number : (f : Format) (s : Bool) (a c : ℕ) → T (not (is_nan (round f s a c)))
unfolding round
round_number f s a c = units_number f s _ _

-- a valid scale times a number
product-number : (f : Format) (scale y : Float) → T (valid_scale scale) → is_nan y ≡ false → T (not (is_nan (mul f scale y)))
unfolding mul is_nan valid_scale lt
product-number f nan y v n = absurd v
product-number f (inf true) y v n = absurd v
product-number f (inf false) y v n = absurd v
product-number f (fin true m e) y v n = absurd v
product-number f (fin false m e) nan v n = absurd (true≢false n)
product-number f (fin false zero e) (inf t) v n = absurd (omega (arith, ltb→lt (0 * 1 * down e) (0 * up e * 1) (and_l (ltb (0 * 1 * down e) (0 * up e * 1)) true v)))
product-number f (fin false (suc m) e) (inf t) v n = rw eqb-suc-zero tt
product-number f (fin false m e) (fin t q d) v n = round_number f _ _ _

-- so every product of an admitted call is
pub admitted-number : {scale : Float} {samples : List Float} {output : List ℕ} → WellFormed scale samples output → (k : ℕ) → k < length samples → T (not (is_nan (product scale samples k)))
admitted-number {scale} {samples} a k h =
    product-number binary32 scale (get_or samples k nan) a.scale_valid (first-before (λ i. is_nan (get_or samples i nan)) (length samples) k (omega (arith, a.all_numbers)))
