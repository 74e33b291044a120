-- The sums of two halves, put side by side and then combined in place.
use mathlib.Core.Path.{◌≡◌, ap, ap₂, ◌∙◌}
use mathlib.Core.List.{List, ◌++◌}
use Prim.Native.Nat.{ℕ, ◌+◌, ◌≤◌}
use lib.ListN.{length}
use Rattle.laws.specs.Clauses.{splice, segment}
use Rattle.laws.proofs.Segment.{splice_over, segment_splice_front, segment_splice_back}
use Rattle.transform.specs.Transform.{xors}
use Rattle.transform.proofs.Xors.{length-xors}

pub combined-sums : {h : ℕ} {w₂ w₃ : List ℕ} (w : List ℕ) (base : ℕ) (l r : List ℕ) → length l ≡ h → length r ≡ h → base + (h + h) ≤ length w → w₂ ≡ splice w base (l ++ r) → w₃ ≡ splice w₂ base (xors h (segment w₂ base h) (segment w₂ (base + h) h)) → w₃ ≡ splice w base (xors h l r ++ r)
combined-sums {h} w base l r nl nr fits both e =
    e ∙ ap (λ (s : List ℕ). splice s base (xors h (segment s base h) (segment s (base + h) h))) both
    ∙ ap₂ (λ (x y : List ℕ). splice (splice w base (l ++ r)) base (xors h x y))
    (segment_splice_front w base l r h h nl nr fits)
    (segment_splice_back w base l r h h nl nr fits)
    ∙ splice_over w base l r h h nl nr fits (xors h l r) (length-xors h l r)
