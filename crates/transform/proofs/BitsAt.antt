-- Bits within an array.
use mathlib.Core.Path.{◌≡◌, sym, ap, ◌∙◌, subst}
use mathlib.Core.List.{List}
use Prim.Native.Nat.{ℕ, ◌+◌, ◌≤◌}
use native.Mathlib.Omega.{arith}
use lib.ListN.{length}
use Rattle.laws.specs.Clauses.{splice, segment}
use Rattle.laws.proofs.Segment.{segment-front, segment-back, segment-splice, length-splice}
use Rattle.bits.specs.Claims.{Bits}
use Rattle.bits.proofs.Lists.{bits-take, bits-drop}
use Rattle.transform.specs.Clauses.{BitsAt}

-- the halves of bits within an array
module _ {room : ℕ} {w : List ℕ} {base h : ℕ} (p : BitsAt room w base (h + h)) where
  pub left-half : BitsAt room w base h
  left-half = record {
    whole = p.whole;
    fits = omega (arith, p.fits);
    bits = subst Bits (segment-front w base h) (bits-take h (segment w base (h + h)) p.bits);
  }

  pub right-half : BitsAt room w (base + h) h
  right-half = record {
    whole = p.whole;
    fits = omega (arith, p.fits);
    bits = subst Bits (segment-back w base h) (bits-drop h (segment w base (h + h)) p.bits);
  }

-- bits that are spliced into an array
pub bits_at_splice : {room n : ℕ} {w' : List ℕ} (w : List ℕ) (base : ℕ) (ys : List ℕ) → w' ≡ splice w base ys → length ys ≡ n → length w ≡ room → base + n ≤ room → Bits ys → BitsAt room w' base n
bits_at_splice {room} {n} {w'} w base ys e len whole fits p =
    let inside : base + n ≤ length w = omega arith in
    record {
      whole = ap length e ∙ length-splice w base ys n len inside ∙ whole;
      fits = fits;
      bits = subst Bits (sym (ap (λ (v : List ℕ). segment v base n) e ∙ segment-splice w base ys n len inside)) p;
    }
