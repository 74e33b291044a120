-- The sets that append an index to one set: their keys, and a walk that inserts them index by index.
use mathlib.Core.Path.{◌≡◌, refl, ap, ap₂, ◌∙◌}
use mathlib.Core.Bool.{Bool, true, false, ◌&&◌, cond}
use mathlib.Core.List.{List, [], ◌∷◌, ◌++◌, map}
use Prim.Native.Nat.{ℕ, zero, suc, ◌+◌, ◌*◌, ◌^◌, ◌≤◌}
use native.Mathlib.Numerals.{add-one}
use native.Mathlib.Omega.{arith}
use borrow.Author.Tests.{le-leb, lt-leb, ne_eqb}
use lib.Dec.{eqb}
use lib.IntN.{ℤ}
use lib.ListN.{length}
use Rattle.bits.specs.Mask.{mask_bit}
use Rattle.decoder.specs.Candidate.{Candidate, past_largest, doubtful, candidate, extensions}
use Rattle.sets_queue.specs.declared.Stem.{Stem}
use Rattle.sets_queue.specs.Clauses.{base, set_key, WalkPre, SetPre, stem_of, StemFits, key_with, keys_with, Untried, insert_keys, with_keys}
use Rattle.sets_queue.proofs.Inserting.{insert_more}

-- ---- insertions one after another

pub with-none : (q : Untried) → with_keys [] q ≡ q
unfolding insert_keys
with-none q = refl

pub with_more : (new more : List ℕ) (q : Untried) → with_keys (new ++ more) q ≡ with_keys more (with_keys new q)
with_more new more q = ap (λ (ks : List ℕ). record { keys = ks; room = q.room }) (insert_more q.room new more q.keys)

-- ---- the keys of sets that append an index

module _ (mask : List ℕ) (leaves : List ℤ) where
  pub keys_frozen : (s : Stem) (small j : ℕ) → (mask_bit mask j ≡ 1 → ⊥) → keys_with mask leaves s small j ≡ []
  keys_frozen s small j f = ap (λ (t : Bool). cond t (key_with leaves s small j ∷ []) []) (ne_eqb (mask_bit mask j) 1 f)

  key-is : (is : List ℕ) (j small : ℕ) → length is ≤ 2 → small ≡ doubtful mask leaves (suc j) → set_key (candidate mask leaves (is ++ (j ∷ []))) ≡ key_with leaves (stem_of leaves is) small j
  key-is [] j small l e = ap₂ (λ (m d : ℕ). m * base ^ 3 + d) (omega arith) (omega arith)
  key-is (a ∷ []) j small l e = ap₂ (λ (m d : ℕ). m * base ^ 3 + d) (omega arith) (omega arith)
  key-is (a ∷ b ∷ []) j small l e = ap₂ (λ (m d : ℕ). m * base ^ 3 + d) (omega arith) (omega arith)
  key-is (a ∷ b ∷ c ∷ is) j small l e = absurd (omega arith)

  module _ (is : List ℕ) where
    -- one index more
    pub extension_keys : (j small : ℕ) → length is ≤ 2 → past_largest is ≤ j → small ≡ doubtful mask leaves (j + 1)
        → map set_key (extensions mask leaves is (j + 1)) ≡ map set_key (extensions mask leaves is j) ++ keys_with mask leaves (stem_of leaves is) small j
    unfolding extensions
    extension_keys j small few l e =
        ap (λ (n : ℕ). map set_key (extensions mask leaves is n)) (add-one j)
        ∙ map-append (extensions mask leaves is j) _
        ∙ ap (λ (xs : List ℕ). map set_key (extensions mask leaves is j) ++ xs)
        (ap (λ (t : Bool). map set_key (cond (eqb (mask_bit mask j) 1 && t) (candidate mask leaves (is ++ (j ∷ [])) ∷ []) [])) (le-leb _ _ l)
        ∙ go (eqb (mask_bit mask j) 1) (key-is is j small few (e ∙ ap (doubtful mask leaves) (add-one j))))
      where
        map-append : (xs ys : List Candidate) → map set_key (xs ++ ys) ≡ map set_key xs ++ map set_key ys
        map-append [] ys = refl
        map-append (x ∷ xs) ys = ap (λ (ks : List ℕ). set_key x ∷ ks) (map-append xs ys)

        go : (t : Bool) → set_key (candidate mask leaves (is ++ (j ∷ []))) ≡ key_with leaves (stem_of leaves is) small j → map set_key (cond (t && true) (candidate mask leaves (is ++ (j ∷ [])) ∷ []) []) ≡ cond t (key_with leaves (stem_of leaves is) small j ∷ []) []
        go true f = ap (λ (k : ℕ). k ∷ []) f
        go false f = refl

    -- nothing is appended up to the largest index
    pub extensions-none : (n : ℕ) → n ≤ past_largest is → extensions mask leaves is n ≡ []
    unfolding extensions
    extensions-none zero l = refl
    extensions-none (suc n) l =
        ap₂ (λ (xs : List Candidate) (t : Bool). xs ++ cond (eqb (mask_bit mask n) 1 && t) (candidate mask leaves (is ++ (n ∷ [])) ∷ []) [])
        (extensions-none n (omega arith)) (lt-leb _ _ l) ∙ go (eqb (mask_bit mask n) 1)
      where
        go : (t : Bool) → cond (t && false) (candidate mask leaves (is ++ (n ∷ [])) ∷ []) [] ≡ []
        go true = refl
        go false = refl

-- a stem's keys fit
module _ {mask : List ℕ} {leaves : List ℤ} (on : WalkPre mask leaves) where
  pub stem-fits : (is : List ℕ) → SetPre (8 * length mask) is → StemFits (stem_of leaves is)
  stem-fits [] p = record { sum_most = omega arith; digits_most = omega arith; weight_most = omega arith }
  stem-fits (i ∷ []) p = record {
    sum_most = omega (arith, on.small.at i (p.below 0 (omega arith)));
    digits_most = omega (arith, p.below 0 (omega arith), on.fits);
    weight_most = omega arith;
  }
  stem-fits (i ∷ j ∷ []) p = record {
    sum_most = omega (arith, on.small.at i (p.below 0 (omega arith)), on.small.at j (p.below 1 (omega arith)));
    digits_most = omega (arith, p.below 0 (omega arith), p.below 1 (omega arith), on.fits);
    weight_most = omega arith;
  }
  stem-fits (i ∷ j ∷ k ∷ is) p = absurd (omega (arith, p.few))
