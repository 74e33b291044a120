-- Text put after what waits in the output.
use mathlib.Core.Path.{◌≡◌, sym, ap, ◌∙◌}
use mathlib.Core.List.{List, ◌++◌}
use Prim.Native.Nat.{ℕ, ◌+◌, ◌≤◌}
use native.Mathlib.Omega.{arith}
use borrow.Rule.Slice.PartMut.{put_mid, post_of}
use lib.ListN.{length, take}
use lib.Seq.{length-take-le, take-append-add, take-append-le}
use Rattle.receive_lines.specs.Clauses.{PutPost}
use Rattle.receive_lines.proofs.Putting.{length_put, take_put}

-- the first k bytes of a part from index `at` on
pub take_behind : (output part : List ℕ) (at n k : ℕ) → at ≤ length output → k ≤ length part → take (at + k) (put_mid at n output part) ≡ take at output ++ take k part
take_behind output part at n k l m =
    ap (λ (j : ℕ). take (j + k) (put_mid at n output part)) (sym (length-take-le at output l))
    ∙ take-append-add (take at output) (part ++ post_of at n output) k
    ∙ ap (λ (x : List ℕ). take at output ++ x) (take-append-le k part (post_of at n output) m)

-- a line
pub put_behind : {w text part : List ℕ} {k : ℕ} (output : List ℕ) (at n : ℕ) → at ≤ length output → PutPost w 0 text part k → take (at + k) (put_mid at n output part) ≡ take at output ++ text
put_behind {w} {text} {part} {k} output at n l p =
    take_behind output part at n k l (omega (arith, p.fits, length_put p)) ∙ ap (λ (x : List ℕ). take at output ++ x) (take_put p)
