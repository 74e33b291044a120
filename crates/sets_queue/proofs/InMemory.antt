-- The keys of a queue in its memory: the first is taken, and a key is put in its place or turned away.
use Rattle.std.proofs.Common.{◌≡◌, sym, ap, ◌∙◌, List, [], ◌∷◌, ◌++◌, ℕ, suc, ◌+◌, ◌-◌, ◌≤◌, ◌<◌, min, length, get_or, take, drop, set, arith, length-take, length-set, get_or-take, get_or-drop, get_or-set_same, get_or-set_other, ltb}
use Rattle.std.specs.List.{SameBelow, CopiedTo}
use Rattle.std.proofs.lemmas.List.{get_or_append_left, get_or-append-add, take-append-le, take_all}
use Rattle.std.proofs.lemmas.Grind.{same_number_lists}
use Rattle.laws.specs.Insert.{insert_by}
use Rattle.laws.proofs.Indices.{lt_cases}
use Rattle.laws.proofs.Insert.{length_insert}
use Rattle.sets_queue.specs.Clauses.{Place}
use Rattle.sets_queue.proofs.Inserting.{Ordered, insert_at}

-- the first of some keys, and the others in what is left of the places
pub first_off : (n : ℕ) (places : List ℕ) → 0 < n → n ≤ length places → take n places ≡ get_or places 0 0 ∷ take (n - 1) (take (length places - 1) (drop 1 places))
first_off n [] l m = absurd (omega arith)
first_off n (x ∷ xs) l m =
    let e : n ≡ suc (n - 1) = omega arith in
    let all : take (length (x ∷ xs) - 1) xs ≡ xs = take_all (length (x ∷ xs) - 1) xs (omega arith) in
    ap (λ (k : ℕ). take k (x ∷ xs)) e ∙ ap (λ (ys : List ℕ). x ∷ take (n - 1) ys) (sym all)

-- a key's place among keys in order
module _ {key p : ℕ} {ks : List ℕ} (order : Ordered ks) (place : Place key ks p) where
  pub placed : insert_by ltb key ks ≡ take p ks ++ (key ∷ drop p ks)
  placed = insert_at key ks p before (λ a l m. place.above a l m)
    where
      before : (a : ℕ) → a < p → a < length ks → get_or ks a 0 ≤ key
      before a l m =
          lt_cases a (p - 1) (λ h. omega (arith, place.most, place.last (omega arith), order.at a (p - 1) h (omega (arith, place.most))))
          (λ h. let e : a ≡ p - 1 = omega arith in omega (arith, ap (λ (k : ℕ). get_or ks k 0) e, place.last (omega arith)))

  -- the greatest of a full queue, and no room for it
  pub turned_away : p ≡ length ks → take (length ks) (insert_by ltb key ks) ≡ ks
  turned_away e = ap (take (length ks)) placed ∙ take-append-le (length ks) (take p ks) (key ∷ drop p ks) (omega (arith, length-take p ks)) ∙ ap (take (length ks)) (take_all p ks (omega arith)) ∙ take_all (length ks) ks (omega arith)

  front_length : length (take p ks) ≡ p
  front_length = omega (arith, length-take p ks, place.most)

  placed-before : (a : ℕ) → a < p → get_or (insert_by ltb key ks) a 0 ≡ get_or ks a 0
  placed-before a l =
      ap (λ (xs : List ℕ). get_or xs a 0) placed ∙ get_or_append_left (take p ks) (key ∷ drop p ks) 0 a (omega (arith, front_length)) ∙ get_or-take p ks a 0 l

  placed-from : (b : ℕ) → get_or (insert_by ltb key ks) (p + b) 0 ≡ get_or (key ∷ drop p ks) b 0
  placed-from b =
      ap (λ (xs : List ℕ). get_or xs (p + b) 0) placed
      ∙ ap (λ (k : ℕ). get_or (take p ks ++ (key ∷ drop p ks)) (k + b) 0) (sym front_length)
      ∙ get_or-append-add (take p ks) (key ∷ drop p ks) b 0

-- a key put in its place, and those above it one place higher, as far as the room goes
module _ (key p len : ℕ) (places places' : List ℕ) (most : len ≤ length places) (order : Ordered (take len places)) (place : Place key (take len places) p) (room : p < length places)
    (whole : length places' ≡ length places) (below : SameBelow places places' (p + 1)) (up : CopiedTo places places' p (p + 1) (min len (length places - 1) - p)) where
  abbrev ks : List ℕ
  ks = take len places

  abbrev new : List ℕ
  new = set places' p key

  abbrev end : ℕ
  end = min len (length places - 1) + 1

  many : length ks ≡ len
  many = omega (arith, length-take len places)

  entry : (a : ℕ) → a < end → get_or new a 0 ≡ get_or (insert_by ltb key ks) a 0
  entry a l =
      lt_cases a p
      (λ h. get_or-set_other places' p a key 0 (λ e. omega arith) ∙ below a 0 (omega arith)
      ∙ sym (placed-before order place a h ∙ get_or-take len places a 0 (omega (arith, place.most, many))))
      (λ h. lt_cases p a
      (λ g.
      let e : a ≡ p + suc (a - (p + 1)) = omega arith in
      get_or-set_other places' p a key 0 (λ e. omega arith)
      ∙ up a 0 (omega arith) (omega arith)
      ∙ sym (ap (λ (k : ℕ). get_or (insert_by ltb key ks) k 0) e ∙ placed-from order place (suc (a - (p + 1))) ∙ get_or-drop p ks (a - (p + 1)) 0
      ∙ get_or-take len places (p + (a - (p + 1))) 0 (omega arith)))
      (λ g.
      let e : a ≡ p + 0 = omega arith in
      let d : a ≡ p = omega arith in
      ap (λ (k : ℕ). get_or new k 0) d ∙ get_or-set_same places' p key 0 (omega arith)
      ∙ sym (ap (λ (k : ℕ). get_or (insert_by ltb key ks) k 0) e ∙ placed-from order place 0)))

  pub put : take end new ≡ take (length places) (insert_by ltb key ks)
  put =
      let long : length (take end new) ≡ end = omega (arith, length-take end new, length-set places' p key) in
      same_number_lists _ _ (omega (arith, long, length-take (length places) (insert_by ltb key ks), length_insert ltb key ks, many))
      (λ a l. get_or-take end new a 0 (omega (arith, long)) ∙ entry a (omega (arith, long)) ∙ sym (get_or-take (length places) (insert_by ltb key ks) a 0 (omega (arith, long))))
