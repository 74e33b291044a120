-- Text put after text.
use mathlib.Core.Path.{◌≡◌, refl, sym, ap, ap₂, ◌∙◌, subst}
use mathlib.Core.List.{List, [], ◌∷◌, ◌++◌}
use Prim.Native.Nat.{ℕ, ◌+◌, ◌≤◌, ◌<◌}
use native.Mathlib.Numerals.{add-one}
use native.Mathlib.Omega.{arith}
use lib.ListN.{length, set, take, drop, length-append}
use lib.Seq.{set_split}
use Rattle.laws.specs.Clauses.{splice}
use Rattle.laws.proofs.Segment.{length-splice, splice-segment, splice-next, segment-splice}
use Rattle.receive_lines.specs.declared.Line.{Line}
use Rattle.receive_lines.specs.Clauses.{PutPost, Put}

pub put_none : {w : List ℕ} {at : ℕ} → at ≤ length w → PutPost w at [] w at
put_none {w} {at} h = record { next_is = omega arith; fits = h; after_is = sym (splice-segment w at 0 (omega arith)) }

pub length_put : {w xs w' : List ℕ} {at k : ℕ} → PutPost w at xs w' k → length w' ≡ length w
length_put {w} {xs} {w'} {at} p = ap length p.after_is ∙ length-splice w at xs (length xs) refl (omega (arith, p.fits, p.next_is))

-- text after text
pub put_more : {w xs w' ys w'' : List ℕ} {at m k : ℕ} → PutPost w at xs w' m → PutPost w' m ys w'' k → PutPost w at (xs ++ ys) w'' k
put_more {w} {xs} {w'} {ys} {w''} {at} {m} {k} p q =
    let room : at + (length xs + length ys) ≤ length w = omega (arith, q.fits, q.next_is, p.next_is, length_put p) in
    record {
      next_is = omega (arith, q.next_is, p.next_is, length-append xs ys);
      fits = omega (arith, q.fits, length_put p);
      after_is = q.after_is ∙ ap (λ (l : List ℕ). splice l m ys) p.after_is ∙ ap (λ (j : ℕ). splice (splice w at xs) j ys) p.next_is
          ∙ splice-next w at xs ys (length xs) (length ys) refl refl room;
    }

-- one byte
pub put_byte : {w : List ℕ} {at x : ℕ} → at < length w → PutPost w at (x ∷ []) (set w at x) (at + 1)
unfolding splice
put_byte {w} {at} {x} h = record {
  next_is = refl;
  fits = omega arith;
  after_is = set_split w at x h ∙ ap (λ (k : ℕ). take at w ++ (x ∷ drop k w)) (sym (add-one at));
}

-- text that equals another
pub put_as : {w xs w' : List ℕ} {at k : ℕ} → PutPost w at xs w' k → (ys : List ℕ) → xs ≡ ys → PutPost w at ys w' k
put_as {w} {xs} {w'} {at} {k} p ys e = subst (λ (l : List ℕ). PutPost w at l w' k) e p

-- text at the start
pub take_put : {w xs w' : List ℕ} {k : ℕ} → PutPost w 0 xs w' k → take k w' ≡ xs
take_put {w} {xs} {w'} {k} p =
    let e : k ≡ length xs = omega (arith, p.next_is) in
    ap₂ take e p.after_is ∙ segment-splice w 0 xs (length xs) refl (omega (arith, p.fits))

-- ---- the same of a line in its buffer

-- from what is put
pub put_in_line : {a b : Line} {xs : List ℕ} → b.buffer.ghost_name ≡ a.buffer.ghost_name → PutPost a.buffer.now a.end xs b.buffer.now b.end → Put a xs b
put_in_line e p = record { same_buffer = e; same_size = length_put p; put = p }

pub nothing_put : {a : Line} → a.end ≤ length a.buffer.now → Put a [] a
nothing_put h = put_in_line refl (put_none h)

-- text after text
pub put_then : {a b c : Line} {xs ys : List ℕ} → Put a xs b → Put b ys c → Put a (xs ++ ys) c
put_then p q = put_in_line (q.same_buffer ∙ p.same_buffer) (put_more p.put q.put)

-- text that equals another
pub put_equal : {a b : Line} {xs ys : List ℕ} → xs ≡ ys → Put a xs b → Put a ys b
put_equal {a} {b} e p = subst (λ (l : List ℕ). Put a l b) e p
