-- Folding in place, half by half: what each call finds in the array, and what all of them leave.
use mathlib.Core.Path.{◌≡◌, refl, sym, ap, ap₂, ◌∙◌, subst}
use mathlib.Core.List.{List, ◌++◌}
use Prim.Native.Nat.{ℕ, suc, ◌+◌, ◌-◌, ◌/◌, ◌^◌, ◌≤◌}
use native.Mathlib.Omega.{arith}
use lib.ListN.{length, take, drop}
use Rattle.laws.specs.Clauses.{splice, segment}
use Rattle.laws.proofs.Segment.{length-segment, segment-front, segment-back, drop-splice, length-splice, splice-segment, segment_splice_front, segment_splice_back, splice-next, splice_over}
use Rattle.laws.proofs.Powers.{half_pow, two_halves}
use Rattle.transform.specs.Clauses.{BytesAt, folded, xor_bytes}
use Rattle.transform.proofs.Folded.{length-xor_bytes, length-folded, folded-suc}

-- a single byte stays as it is
pub single : {room : ℕ} {w : List ℕ} {base layer size : ℕ} → layer ≡ 0 → BytesAt room w base size → w ≡ splice w base (folded layer (segment w base size))
unfolding folded
single {room} {w} {base} {layer} {size} none p =
    sym (splice-segment w base size (omega (arith, p.whole, p.fits)))
    ∙ ap (λ (k : ℕ). splice w base (folded k (segment w base size))) (sym none)

-- `size` bytes at a layer are two halves of h bytes at layer n
pub record Halving (layer size n h : ℕ) : Type 0 where
  pub below : layer ≡ suc n
  pub pow : h ≡ 2 ^ n
  pub two : size ≡ h + h

pub halving : {layer size : ℕ} → (layer ≡ 0 → ⊥) → size ≡ 2 ^ layer → Halving layer size (layer - 1) (size / 2)
halving {layer} {size} some pow = record {
  below = omega arith;
  pow = half_pow layer size some pow;
  two = two_halves layer size some pow;
}

pub halving_pair : {layer size : ℕ} → layer ≡ 1 → size ≡ 2 ^ layer → Halving layer size 0 1
halving_pair one pow = record { below = one; pow = refl; two = pow ∙ ap (λ (k : ℕ). 2 ^ k) one }

module _ {layer size n h room : ℕ} {w : List ℕ} {base : ℕ} (d : Halving layer size n h) (p : BytesAt room w base size) where
  -- the halves, folded
  abbrev L : List ℕ
  L = folded n (segment w base h)

  abbrev R : List ℕ
  R = folded n (segment w (base + h) h)

  pub halves : BytesAt room w base (h + h)
  halves = subst (BytesAt room w base) d.two p

  pub left-bytes : BytesAt room w base h
  left-bytes = record { whole = p.whole; fits = omega (arith, halves.fits) }

  fits : base + (h + h) ≤ length w
  fits = omega (arith, halves.whole, halves.fits)

  long : (at : ℕ) → at + h ≤ length w → length (folded n (segment w at h)) ≡ h
  long at l = length-folded n (segment w at h) (length-segment w at h l ∙ d.pow) ∙ sym d.pow

  long_L : length L ≡ h
  long_L = long base (omega (arith, fits))

  long-R : length R ≡ h
  long-R = long (base + h) (omega (arith, fits))

  -- the left half is folded
  module _ {w₁ : List ℕ} (e : w₁ ≡ splice w base L) where
    right_kept : segment w₁ (base + h) h ≡ segment w (base + h) h
    right_kept = ap (λ (v : List ℕ). segment v (base + h) h) e ∙ ap (take h) (drop-splice w base L h long_L (omega (arith, fits)))

    pub right-next : BytesAt room w₁ (base + h) h
    right-next = record {
      whole = ap length e ∙ length-splice w base L h long_L (omega (arith, fits)) ∙ p.whole;
      fits = omega (arith, halves.fits);
    }

    -- then the right half
    pub both_halves : {w₂ : List ℕ} → w₂ ≡ splice w₁ (base + h) (folded n (segment w₁ (base + h) h)) → w₂ ≡ splice w base (L ++ R)
    both_halves e₂ =
        e₂ ∙ ap₂ (λ (v s : List ℕ). splice v (base + h) (folded n s)) e right_kept
        ∙ splice-next w base L R h h long_L long-R fits

  module _ {w₂ : List ℕ} (e : w₂ ≡ splice w base (L ++ R)) where
    -- then both are combined
    pub combined : {w₃ : List ℕ} → w₃ ≡ splice w₂ base (xor_bytes h (segment w₂ base h) (segment w₂ (base + h) h)) → w₃ ≡ splice w base (folded layer (segment w base size))
    combined e₃ =
        e₃ ∙ ap (λ (v : List ℕ). splice v base (xor_bytes h (segment v base h) (segment v (base + h) h))) e
        ∙ ap₂ (λ (a b : List ℕ). splice (splice w base (L ++ R)) base (xor_bytes h a b))
        (segment_splice_front w base L R h h long_L long-R fits) (segment_splice_back w base L R h h long_L long-R fits)
        ∙ splice_over w base L R h h long_L long-R fits (xor_bytes h L R) (length-xor_bytes h L R)
        ∙ ap (splice w base) (sym recursive)
      where
        recursive : folded layer (segment w base size) ≡ xor_bytes h L R ++ R
        recursive =
            ap₂ (λ (k m : ℕ). folded k (segment w base m)) d.below d.two
            ∙ folded-suc n (segment w base (h + h))
            ∙ ap (λ (k : ℕ). xor_bytes k (folded n (take k (segment w base (h + h)))) (folded n (drop k (segment w base (h + h)))) ++ folded n (drop k (segment w base (h + h)))) (sym d.pow)
            ∙ ap₂ (λ (a b : List ℕ). xor_bytes h (folded n a) (folded n b) ++ folded n b) (segment-front w base h) (segment-back w base h)
