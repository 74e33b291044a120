-- Sets as keys: the order of keys is that of the sets, and the set of a key is found again.
use mathlib.Core.Path.{◌≡◌, refl, sym, ap, ap₂, ◌∙◌, subst}
use mathlib.Core.Logic.{⊎_elim}
use mathlib.Core.Bool.{Bool, true, false, ◌&&◌, ◌||◌, cond}
use mathlib.Core.List.{List, [], ◌∷◌, map, Memᴰ}
use Prim.Native.Nat.{ℕ, zero, suc, ◌+◌, ◌-◌, ◌*◌, ◌^◌, ◌≤◌, ◌<◌}
use native.Mathlib.Nat.{mul-le-mul, pow-suc}
use native.Mathlib.Omega.{arith}
use borrow.Author.Tests.{lt-ltb, le-ltb, eq-eqb, ne_eqb}
use lib.Dec.{ltb, eqb, leb-suc-suc, eqb-suc-suc}
use lib.ListN.{length, get_or, take}
use Rattle.laws.specs.Insert.{insert_by, earlier}
use Rattle.laws.proofs.Indices.{lt_cases}
use Rattle.laws.proofs.Pairs.{take-member}
use Rattle.laws.proofs.Insert.{insert_member}
use Rattle.decoder.specs.Candidate.{Candidate, precedes, insert_each}
use Rattle.sets_queue.specs.Clauses.{base, digits, set_key, digit_at, indices_of, Digits, insert_keys}

-- two numbers of a high part and a low part below P
less_parts : (P a b d e : ℕ) → d < P → e < P → ltb (a * P + d) (b * P + e) ≡ ltb a b || (eqb a b && ltb d e)
less_parts P a b d e l m =
    lt_cases a b lower (λ h. lt_cases b a (higher h) (λ k. same (omega arith)))
  where
    lower : a < b → ltb (a * P + d) (b * P + e) ≡ ltb a b || (eqb a b && ltb d e)
    lower h =
        let more : suc a * P ≤ b * P = mul-le-mul h (omega arith) in
        lt-ltb (a * P + d) (b * P + e) (omega arith) ∙ sym (ap (λ (t : Bool). t || (eqb a b && ltb d e)) (lt-ltb a b h))

    higher : b ≤ a → b < a → ltb (a * P + d) (b * P + e) ≡ ltb a b || (eqb a b && ltb d e)
    higher h k =
        let more : suc b * P ≤ a * P = mul-le-mul k (omega arith) in
        le-ltb (a * P + d) (b * P + e) (omega arith)
        ∙ sym (ap₂ (λ (t u : Bool). t || (u && ltb d e)) (le-ltb a b h) (ne_eqb a b (λ q. omega arith)))

    same : a ≡ b → ltb (a * P + d) (b * P + e) ≡ ltb a b || (eqb a b && ltb d e)
    same q =
        lt_cases d e (λ h. lt-ltb (a * P + d) (b * P + e) (omega (arith, ap (λ (k : ℕ). k * P) q)) ∙ sym (lt-ltb d e h))
        (λ h. le-ltb (a * P + d) (b * P + e) (omega (arith, ap (λ (k : ℕ). k * P) q)) ∙ sym (le-ltb d e h))
        ∙ sym (ap₂ (λ (t u : Bool). t || (u && ltb d e)) (le-ltb a b (omega arith)) (eq-eqb a b q))

-- ---- digits

pow_positive : (p : ℕ) → 0 < base ^ p
pow_positive zero = omega arith
pow_positive (suc p) = omega (arith, pow-suc base p, pow_positive p)

digits_tail : {p i : ℕ} {is : List ℕ} → Digits (suc p) (i ∷ is) → Digits p is
digits_tail d = record { few = omega (arith, d.few); below = λ a l. d.below (suc a) (omega arith) }

digits-below : (p : ℕ) (is : List ℕ) → Digits p is → digits p is < base ^ p
digits-below zero is d = omega arith
digits-below (suc p) [] d = pow_positive (suc p)
digits-below (suc p) (i ∷ is) d =
    let low : digits p is < base ^ p = digits-below p is (digits_tail d) in
    let high : suc (suc i) * base ^ p ≤ base * base ^ p = mul-le-mul (let l : suc (suc i) ≤ base = omega (arith, d.below 0 (omega arith)) in l) (omega arith) in
    omega (arith, pow-suc base p)

-- the digits of two lists compare as the lists do, from the first entry
earlier-digits : (p : ℕ) (is js : List ℕ) → Digits p is → Digits p js → ltb (digits p is) (digits p js) ≡ earlier is js
earlier-digits zero is [] d e = refl
earlier-digits zero is (j ∷ js) d e = absurd (omega (arith, e.few))
earlier-digits (suc p) is [] d e = le-ltb (digits (suc p) is) 0 (omega arith)
earlier-digits (suc p) [] (j ∷ js) d e =
    lt-ltb 0 (digits (suc p) (j ∷ js)) (let more : 1 * base ^ p ≤ suc j * base ^ p = mul-le-mul (let l : 1 ≤ suc j = omega arith in l) (omega arith) in omega (arith, pow_positive p))
earlier-digits (suc p) (i ∷ is) (j ∷ js) d e =
    less_parts (base ^ p) (suc i) (suc j) (digits p is) (digits p js) (digits-below p is (digits_tail d)) (digits-below p js (digits_tail e))
    ∙ ap₂ (λ (t u : Bool). t || (u && ltb (digits p is) (digits p js))) (leb-suc-suc (suc i) j) (eqb-suc-suc i j)
    ∙ ap (λ (t : Bool). ltb i j || (eqb i j && t)) (earlier-digits p is js (digits_tail d) (digits_tail e))

-- ---- keys

-- a candidate that has a key
abbrev pub Keyed : Candidate → Type 0
Keyed x = Digits 3 x.flips

key-before : (x y : Candidate) → Keyed x → Keyed y → ltb (set_key x) (set_key y) ≡ precedes x y
key-before x y d e =
    less_parts (base ^ 3) x.metric y.metric (digits 3 x.flips) (digits 3 y.flips) (digits-below 3 x.flips d) (digits-below 3 y.flips e)
    ∙ ap (λ (t : Bool). ltb x.metric y.metric || (eqb x.metric y.metric && t)) (earlier-digits 3 x.flips y.flips d e)

keys_insert : (x : Candidate) (ys : List Candidate) → Keyed x → ((y : Candidate) → Memᴰ y ys → Keyed y) → map set_key (insert_by precedes x ys) ≡ insert_by ltb (set_key x) (map set_key ys)
unfolding insert_by
keys_insert x [] d e = refl
keys_insert x (y ∷ ys) d e =
    go (precedes x y) (keys_insert x ys d (λ z m. e z (Memᴰ.tail m)))
    ∙ ap (λ (t : Bool). cond t (set_key x ∷ set_key y ∷ map set_key ys) (set_key y ∷ insert_by ltb (set_key x) (map set_key ys))) (sym (key-before x y d (e y (Memᴰ.head refl))))
  where
    go : (t : Bool) → map set_key (insert_by precedes x ys) ≡ insert_by ltb (set_key x) (map set_key ys)
        → map set_key (cond t (x ∷ y ∷ ys) (y ∷ insert_by precedes x ys)) ≡ cond t (set_key x ∷ set_key y ∷ map set_key ys) (set_key y ∷ insert_by ltb (set_key x) (map set_key ys))
    go true h = refl
    go false h = ap (λ (ks : List ℕ). set_key y ∷ ks) h

keys_take : (m : ℕ) (xs : List Candidate) → map set_key (take m xs) ≡ take m (map set_key xs)
keys_take zero xs = refl
keys_take (suc m) [] = refl
keys_take (suc m) (x ∷ xs) = ap (λ (ks : List ℕ). set_key x ∷ ks) (keys_take m xs)

-- each of some candidates in its place
pub keys_insert_each : (m : ℕ) (xs ys : List Candidate) → ((x : Candidate) → Memᴰ x xs → Keyed x) → ((y : Candidate) → Memᴰ y ys → Keyed y)
    → map set_key (insert_each m xs ys) ≡ insert_keys m (map set_key xs) (map set_key ys)
unfolding insert_each insert_keys
keys_insert_each m [] ys d e = refl
keys_insert_each m (x ∷ xs) ys d e =
    let here : Keyed x = d x (Memᴰ.head refl) in
    keys_insert_each m xs (take m (insert_by precedes x ys)) (λ z p. d z (Memᴰ.tail p))
    (λ z p. ⊎_elim (λ q. subst Keyed (sym q) here) (e z) (insert_member precedes x ys (take-member m (insert_by precedes x ys) p)))
    ∙ ap (insert_keys m (map set_key xs)) (keys_take m (insert_by precedes x ys) ∙ ap (take m) (keys_insert x ys here e))

-- ---- a key's indices

module _ (key : ℕ) where
  abbrev x : ℕ
  x = digit_at (base ^ 2) key

  abbrev y : ℕ
  y = digit_at base key

  abbrev z : ℕ
  z = digit_at 1 key

  pub one_index : y ≡ 0 → indices_of key ≡ (x - 1) ∷ []
  one_index e = ap (λ (k : ℕ). (x - 1) ∷ cond (eqb k 0) [] ((y - 1) ∷ cond (eqb z 0) [] ((z - 1) ∷ []))) e

  more_indices : (y ≡ 0 → ⊥) → indices_of key ≡ (x - 1) ∷ (y - 1) ∷ cond (eqb z 0) [] ((z - 1) ∷ [])
  more_indices f = ap (λ (t : Bool). (x - 1) ∷ cond t [] ((y - 1) ∷ cond (eqb z 0) [] ((z - 1) ∷ []))) (ne_eqb y 0 f)

  pub two_indices : (y ≡ 0 → ⊥) → z ≡ 0 → indices_of key ≡ (x - 1) ∷ (y - 1) ∷ []
  two_indices f e = more_indices f ∙ ap (λ (k : ℕ). (x - 1) ∷ (y - 1) ∷ cond (eqb k 0) [] ((z - 1) ∷ [])) e

  pub three_indices : (y ≡ 0 → ⊥) → (z ≡ 0 → ⊥) → indices_of key ≡ (x - 1) ∷ (y - 1) ∷ (z - 1) ∷ []
  three_indices f g = more_indices f ∙ ap (λ (t : Bool). (x - 1) ∷ (y - 1) ∷ cond t [] ((z - 1) ∷ [])) (ne_eqb z 0 g)

module _ (m : ℕ) where
  abbrev keyed : List ℕ → ℕ
  keyed is = m * base ^ 3 + digits 3 is

  first-digit : (is : List ℕ) → 0 < length is → Digits 3 is → digit_at (base ^ 2) (keyed is) ≡ suc (get_or is 0 0)
  first-digit [] l d = absurd (omega arith)
  first-digit (i ∷ is) l d = let b = digits-below 2 is (digits_tail d) in omega (arith, d.below 0 (omega arith))

  pub first_some : (is : List ℕ) → 0 < length is → Digits 3 is → 0 < digit_at (base ^ 2) (keyed is)
  first_some is l d = omega (arith, first-digit is l d)

  pub indices_back : (is : List ℕ) → 0 < length is → Digits 3 is → indices_of (keyed is) ≡ is
  indices_back [] l d = absurd (omega arith)
  indices_back (i ∷ []) l d =
      let second : digit_at base (keyed (i ∷ [])) ≡ 0 = omega arith in
      let one : digit_at (base ^ 2) (keyed (i ∷ [])) - 1 ≡ i = omega (arith, first-digit (i ∷ []) l d) in
      one_index (keyed (i ∷ [])) second ∙ ap (λ (x : ℕ). x ∷ []) one
  indices_back (i ∷ j ∷ []) l d =
      let is : List ℕ = i ∷ j ∷ [] in
      let second : digit_at base (keyed is) ≡ suc j = omega (arith, d.below 1 (omega arith)) in
      let third : digit_at 1 (keyed is) ≡ 0 = omega arith in
      let one : digit_at (base ^ 2) (keyed is) - 1 ≡ i = omega (arith, first-digit is l d) in
      let two : digit_at base (keyed is) - 1 ≡ j = omega arith in
      two_indices (keyed is) (λ e. omega arith) third ∙ ap₂ (λ (x y : ℕ). x ∷ y ∷ []) one two
  indices_back (i ∷ j ∷ k ∷ []) l d =
      let is : List ℕ = i ∷ j ∷ k ∷ [] in
      let second : digit_at base (keyed is) ≡ suc j = omega (arith, d.below 1 (omega arith), d.below 2 (omega arith)) in
      let third : digit_at 1 (keyed is) ≡ suc k = omega (arith, d.below 2 (omega arith)) in
      let one : digit_at (base ^ 2) (keyed is) - 1 ≡ i = omega (arith, first-digit is l d) in
      let two : digit_at base (keyed is) - 1 ≡ j = omega arith in
      let three : digit_at 1 (keyed is) - 1 ≡ k = omega arith in
      three_indices (keyed is) (λ e. omega arith) (λ e. omega arith) ∙ ap₂ (λ (x y : ℕ). x ∷ y ∷ (digit_at 1 (keyed is) - 1) ∷ []) one two ∙ ap (λ (z : ℕ). i ∷ j ∷ z ∷ []) three
  indices_back (i ∷ j ∷ k ∷ h ∷ is) l d = absurd (omega (arith, d.few))
