-- Beginnings and segments of a list, and a list with a segment replaced.
use mathlib.Core.Path.{◌≡◌, refl, sym, ap, ap₂, ◌∙◌}
use mathlib.Core.List.{List, [], ◌∷◌, ◌++◌, map, append_assoc, append-nil}
use Prim.Native.Nat.{ℕ, zero, suc, ◌+◌, ◌-◌, ◌<◌, ◌≤◌}
use native.Mathlib.Nat.{add-zero, le_of_eq, le_of_suc-le-suc}
use native.Mathlib.Numerals.{add-one}
use native.Mathlib.Omega.{arith}
use borrow.Rule.Slice.PartMut.{put_mid}
use lib.ListN.{length, take, drop, get_or, set, replicate, length-append, length-drop, take-append-drop, drop_of_length-le}
use lib.Seq.{get_or-take, get_or-drop, take-take, take_at, drop_at, drop-drop, length-take-le, take-nil, take_all, set_split}
use Rattle.laws.specs.Clauses.{splice, segment}

-- the images of the first m
pub take-map : {A B : Type 0} (f : A → B) (m : ℕ) (xs : List A) → take m (map f xs) ≡ map f (take m xs)
take-map f zero xs = refl
take-map f (suc m) [] = refl
take-map {A} {B} f (suc m) (x ∷ xs) = ap (λ (ys : List B). f x ∷ ys) (take-map f m xs)

module _ {A : Type 0} where
  -- ---- beginnings

  pub take_swap : (m n : ℕ) (l : List A) → take m (take n l) ≡ take n (take m l)
  take_swap zero n l = sym (take-nil n)
  take_swap (suc m) zero l = refl
  take_swap (suc m) (suc n) [] = refl
  take_swap (suc m) (suc n) (x ∷ l) = ap (λ (r : List A). x ∷ r) (take_swap m n l)

  -- what is left of the first k after the first n
  pub drop_of_take : (n k : ℕ) (l : List A) → drop n (take k l) ≡ take (k - n) (drop n l)
  drop_of_take zero k l = let e : k ≡ k - 0 = omega arith in ap (λ (j : ℕ). take j l) e
  drop_of_take (suc n) zero l = let e : 0 ≡ 0 - suc n = omega arith in ap (λ (j : ℕ). take j (drop (suc n) l)) e
  drop_of_take (suc n) (suc k) [] = sym (take-nil (suc k - suc n))
  drop_of_take (suc n) (suc k) (x ∷ l) =
      let e : k - n ≡ suc k - suc n = omega arith in drop_of_take n k l ∙ ap (λ (j : ℕ). take j (drop n l)) e

  pub drop-take : (n m : ℕ) (l : List A) → drop n (take (n + m) l) ≡ take m (drop n l)
  drop-take n m l =
      let e : n + m - n ≡ m = omega arith in drop_of_take n (n + m) l ∙ ap (λ (j : ℕ). take j (drop n l)) e

  -- the first elements of equal ones
  pub take-replicate : (n m : ℕ) (a : A) → n ≤ m → take n (replicate m a) ≡ replicate n a
  take-replicate zero m a h = refl
  take-replicate (suc n) zero a h = absurd (omega arith)
  take-replicate (suc n) (suc m) a h = ap (λ (l : List A). a ∷ l) (take-replicate n m a (le_of_suc-le-suc h))

  -- ---- segments

  pub length-segment : (w : List A) (at n : ℕ) → at + n ≤ length w → length (segment w at n) ≡ n
  length-segment w at n fits = length-take-le n (drop at w) (omega (arith, length-drop at w))

  pub get_or-segment : (w : List A) (at n i : ℕ) (d : A) → i < n → get_or (segment w at n) i d ≡ get_or w (at + i) d
  get_or-segment w at n i d h = get_or-take n (drop at w) i d h ∙ get_or-drop at w i d

  -- the halves of a segment
  pub segment-front : (w : List A) (at h : ℕ) → take h (segment w at (h + h)) ≡ segment w at h
  segment-front w at h = take-take h (h + h) (drop at w) (omega arith)

  pub segment-back : (w : List A) (at h : ℕ) → drop h (segment w at (h + h)) ≡ segment w (at + h) h
  segment-back w at h = drop-take h h (drop at w) ∙ ap (take h) (drop-drop h at w)

  -- what two lists have in common from k on, they have in common from any later place on
  pub drop_past : (w w' : List A) (k at : ℕ) → k ≤ at → drop k w' ≡ drop k w → drop at w' ≡ drop at w
  drop_past w w' k at l e =
      let q : k + (at - k) ≡ at = omega arith in
      ap (λ (j : ℕ). drop j w') (sym q) ∙ sym (drop-drop (at - k) k w') ∙ ap (drop (at - k)) e ∙ drop-drop (at - k) k w
      ∙ ap (λ (j : ℕ). drop j w) q

  -- ---- one splice

  module _ (w : List A) (at : ℕ) (ys : List A) (n : ℕ) (len : length ys ≡ n) (fits : at + n ≤ length w) where
    pub take-splice : take at (splice w at ys) ≡ take at w
    unfolding splice
    take-splice = take_at (take at w) (ys ++ drop (at + length ys) w) at (length-take-le at w (omega arith))

    after-splice : drop at (splice w at ys) ≡ ys ++ drop (at + n) w
    unfolding splice
    after-splice =
        drop_at (take at w) (ys ++ drop (at + length ys) w) at (length-take-le at w (omega arith))
        ∙ ap (λ (k : ℕ). ys ++ drop (at + k) w) len

    pub drop-splice : drop (at + n) (splice w at ys) ≡ drop (at + n) w
    drop-splice = sym (drop-drop n at (splice w at ys)) ∙ ap (drop n) after-splice ∙ drop_at ys (drop (at + n) w) n len

    pub segment-splice : segment (splice w at ys) at n ≡ ys
    segment-splice = ap (take n) after-splice ∙ take_at ys (drop (at + n) w) n len

    pub length-splice : length (splice w at ys) ≡ length w
    unfolding splice
    length-splice = simp (length-append, length-drop, length-take-le at w (omega arith)) (omega arith)

  -- the k elements of w from `at` on, overwritten by ys
  pub put_mid-splice : (w ys zs : List A) (at k : ℕ) → ys ≡ zs → k ≡ length zs → put_mid at k w ys ≡ splice w at zs
  unfolding splice
  put_mid-splice w ys zs at k e len = rw (e, len, drop-drop) refl

  -- nothing spliced in
  pub splice-nil : (w : List A) (at : ℕ) → splice w at [] ≡ w
  unfolding splice
  splice-nil w at = rw add-zero (take-append-drop at w)

  -- one element
  pub set-splice : (w : List A) (i : ℕ) (a : A) → i < length w → set w i a ≡ splice w i (a ∷ [])
  unfolding splice
  set-splice w i a l = set_split w i a l ∙ ap (λ (k : ℕ). take i w ++ a ∷ drop k w) (sym (add-one i))

  -- a segment put in its own place
  pub splice-segment : (w : List A) (at n : ℕ) → at + n ≤ length w → splice w at (segment w at n) ≡ w
  unfolding splice
  splice-segment w at n l =
      ap (λ (k : ℕ). take at w ++ (segment w at n ++ drop (at + k) w)) (length-segment w at n l)
      ∙ ap (λ (r : List A). take at w ++ (segment w at n ++ r)) (sym (drop-drop n at w))
      ∙ ap (λ (r : List A). take at w ++ r) (take-append-drop n (drop at w))
      ∙ take-append-drop at w

  -- a splice of the whole list
  pub splice-whole : (w ys : List A) → length ys ≡ length w → splice w 0 ys ≡ ys
  splice-whole w ys e =
      sym (take_all_splice) ∙ segment-splice w 0 ys (length w) e (omega arith)
    where
      take_all_splice : segment (splice w 0 ys) 0 (length w) ≡ splice w 0 ys
      take_all_splice = take_all (length w) (splice w 0 ys) (omega (arith, length-splice w 0 ys (length w) e (omega arith)))

  -- a splice that reaches the end of the list
  pub splice-end : (w : List A) (at : ℕ) (ys : List A) → length w ≡ at + length ys → splice w at ys ≡ take at w ++ ys
  unfolding splice
  splice-end w at ys h =
      ap (λ (rest : List A). take at w ++ (ys ++ rest)) (drop_of_length-le w (le_of_eq h))
      ∙ ap (λ (l : List A). take at w ++ l) (append-nil ys)

  -- ---- two splices, side by side

  module _ (w : List A) (at : ℕ) (ys zs : List A) (n m : ℕ) (ny : length ys ≡ n) (nz : length zs ≡ m) (fits : at + (n + m) ≤ length w) where
    both : length (ys ++ zs) ≡ n + m
    both = omega (arith, length-append ys zs)

    after_both : drop at (splice w at (ys ++ zs)) ≡ ys ++ (zs ++ drop (at + (n + m)) w)
    after_both = after-splice w at (ys ++ zs) (n + m) both fits ∙ append_assoc ys zs (drop (at + (n + m)) w)

    -- the two halves of what was spliced in
    pub segment_splice_front : segment (splice w at (ys ++ zs)) at n ≡ ys
    segment_splice_front = ap (take n) after_both ∙ take_at ys (zs ++ drop (at + (n + m)) w) n ny

    pub segment_splice_back : segment (splice w at (ys ++ zs)) (at + n) m ≡ zs
    segment_splice_back =
        ap (take m) (sym (drop-drop n at (splice w at (ys ++ zs))))
        ∙ ap (λ (r : List A). take m (drop n r)) after_both
        ∙ ap (take m) (drop_at ys (zs ++ drop (at + (n + m)) w) n ny)
        ∙ take_at zs (drop (at + (n + m)) w) m nz

    -- a splice right after a splice
    pub splice-next : splice (splice w at ys) (at + n) zs ≡ splice w at (ys ++ zs)
    unfolding splice
    splice-next =
        let s : List A = splice w at ys in
        let tl : length (take at w) ≡ at = length-take-le at w (omega arith) in
        let front : take (at + n) s ≡ take at w ++ ys =
        ap (take (at + n)) (sym (append_assoc (take at w) ys (drop (at + length ys) w)))
        ∙ take_at (take at w ++ ys) (drop (at + length ys) w) (at + n) (omega (arith, length-append (take at w) ys)) in
        let seam : at + n + length zs ≡ at + length (ys ++ zs) = omega (arith, length-append ys zs) in
        let back : drop (at + n + length zs) s ≡ drop (at + length (ys ++ zs)) w =
        sym (drop-drop (length zs) (at + n) s) ∙ ap (drop (length zs)) (drop-splice w at ys n ny (omega arith)) ∙ drop-drop (length zs) (at + n) w
        ∙ ap (λ (k : ℕ). drop k w) seam in
        ap₂ (λ (a b : List A). a ++ (zs ++ b)) front back
        ∙ append_assoc (take at w) ys (zs ++ drop (at + length (ys ++ zs)) w)
        ∙ ap (λ (r : List A). take at w ++ r) (sym (append_assoc ys zs (drop (at + length (ys ++ zs)) w)))

    -- a splice over the first half of a splice
    pub splice_over : (xs : List A) → length xs ≡ n → splice (splice w at (ys ++ zs)) at xs ≡ splice w at (xs ++ zs)
    unfolding splice
    splice_over xs nx =
        let s : List A = splice w at (ys ++ zs) in
        let seam : at + (n + m) ≡ at + length (xs ++ zs) = omega (arith, length-append xs zs) in
        let back : drop (at + length xs) s ≡ zs ++ drop (at + length (xs ++ zs)) w =
        ap (λ (k : ℕ). drop (at + k) s) nx ∙ sym (drop-drop n at s) ∙ ap (drop n) after_both
        ∙ drop_at ys (zs ++ drop (at + (n + m)) w) n ny
        ∙ ap (λ (k : ℕ). zs ++ drop k w) seam in
        ap₂ (λ (a b : List A). a ++ (xs ++ b)) (take-splice w at (ys ++ zs) (n + m) both fits) back
        ∙ ap (λ (r : List A). take at w ++ r) (sym (append_assoc xs zs (drop (at + length (xs ++ zs)) w)))

  -- a splice over a splice
  pub splice-twice : (w : List A) (at : ℕ) (ys xs : List A) (n : ℕ) → length ys ≡ n → length xs ≡ n → at + n ≤ length w → splice (splice w at ys) at xs ≡ splice w at xs
  splice-twice w at ys xs n ny nx l =
      ap (λ (r : List A). splice (splice w at r) at xs) (sym (append-nil ys))
      ∙ splice_over w at ys [] n 0 ny refl (omega arith) xs nx
      ∙ ap (splice w at) (append-nil xs)
