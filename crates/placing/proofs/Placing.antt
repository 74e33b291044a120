-- Placing by a mask and taking out: lengths, bits, that what was placed comes out, and that what was taken out is placed again.
use mathlib.Core.Path.{◌≡◌, refl, sym, ap, ap₂, ◌∙◌, subst}
use mathlib.Core.Bool.{cond}
use mathlib.Core.Logic.{⊎_elim}
use mathlib.Core.List.{List, [], ◌∷◌, ◌++◌, append-nil}
use Prim.Native.Nat.{ℕ, zero, suc, ◌+◌, ◌≤◌, ◌<◌}
use native.Mathlib.Nat.{zero-add, add-zero}
use native.Mathlib.Omega.{arith}
use lib.Dec.{eqb}
use lib.ListN.{length, get_or, take, set, length-append, get_or-append}
use lib.Seq.{take-suc, take_all, get_or-take, get_or-append-add}
use Rattle.laws.specs.Table.{table}
use Rattle.laws.specs.Clauses.{splice}
use Rattle.laws.proofs.Choice.{cond_ind}
use Rattle.laws.proofs.Table.{length-table, get_or-table, table-snoc}
use Rattle.laws.proofs.Filling.{splice-snoc}
use Rattle.bits.specs.Claims.{Bits}
use Rattle.bits.specs.Mask.{mask_bit, ones_below}
use Rattle.bits.proofs.Lists.{bits-nil, bits-cons, bits-append, bits-table}
use Rattle.bits.proofs.Mask.{mask_cases}
use Rattle.placing.specs.Place.{taken, placed, placed_bit}

-- the counts of ones along the mask of document 01's D: before each index, and at the end
pub counts_along_D : table (ones_below (0xE8 ∷ [])) 9 ≡ 0 ∷ 0 ∷ 0 ∷ 0 ∷ 1 ∷ 1 ∷ 2 ∷ 3 ∷ 4 ∷ []
unfolding table ones_below
counts_along_D = refl

-- ---- placed bits

pub length-placed : (mask message : List ℕ) (n : ℕ) → length (placed mask message n) ≡ n
unfolding placed
length-placed mask message n = length-table _ n

pub get_or-placed : (mask message : List ℕ) (n i : ℕ) → i < n → get_or (placed mask message n) i 0 ≡ placed_bit mask message i
unfolding placed
get_or-placed mask message n i l = get_or-table _ n i 0 l

pub bits-placed : (mask message : List ℕ) (n : ℕ) → Bits message → Bits (placed mask message n)
unfolding placed
bits-placed mask message n p =
    bits-table _ n (λ i. cond_ind (λ (x : ℕ). x < 2) (eqb (mask_bit mask i) 1) _ 0 (λ _. p.at _) (λ _. omega arith))

-- ---- taken bits

-- one index more, by its bit of the mask
module _ (mask u : List ℕ) (n : ℕ) where
  pub taken_one : mask_bit mask n ≡ 1 → taken mask u (suc n) ≡ taken mask u n ++ (get_or u n 0 ∷ [])
  unfolding taken
  taken_one e = ap (λ (b : ℕ). taken mask u n ++ cond (eqb b 1) (get_or u n 0 ∷ []) []) e

  pub taken_none : mask_bit mask n ≡ 0 → taken mask u (suc n) ≡ taken mask u n
  unfolding taken
  taken_none e = ap (λ (b : ℕ). taken mask u n ++ cond (eqb b 1) (get_or u n 0 ∷ []) []) e ∙ append-nil (taken mask u n)

pub length_taken : (mask u : List ℕ) (n : ℕ) → length (taken mask u n) ≡ ones_below mask n
unfolding taken ones_below
length_taken mask u zero = refl
length_taken mask u (suc n) =
    ⊎_elim
    (λ e. ap length (taken_none mask u n e) ∙ omega (arith, length_taken mask u n))
    (λ e. ap length (taken_one mask u n e) ∙ omega (arith, length_taken mask u n, length-append (taken mask u n) (get_or u n 0 ∷ [])))
    (mask_cases mask n)

pub bits-taken : (mask u : List ℕ) (n : ℕ) → Bits u → Bits (taken mask u n)
unfolding taken
bits-taken mask u zero p = bits-nil
bits-taken mask u (suc n) p =
    ⊎_elim
    (λ e. subst Bits (sym (taken_none mask u n e)) (bits-taken mask u n p))
    (λ e. subst Bits (sym (taken_one mask u n e)) (bits-append (taken mask u n) (get_or u n 0 ∷ []) (bits-taken mask u n p) (bits-cons (p.at n) bits-nil)))
    (mask_cases mask n)

-- what was placed comes out
pub taken-placed : (mask message : List ℕ) (m n : ℕ) → n ≤ m → ones_below mask n ≤ length message → taken mask (placed mask message m) n ≡ take (ones_below mask n) message
unfolding taken ones_below
taken-placed mask message m zero l h = refl
taken-placed mask message m (suc n) l h =
    let before = taken-placed mask message m n (omega arith) (omega arith) in
    ⊎_elim
    (λ e.
    let same : ones_below mask n + mask_bit mask n ≡ ones_below mask n = omega arith in
    taken_none mask (placed mask message m) n e ∙ before ∙ ap (λ (k : ℕ). take k message) (sym same))
    (λ e.
    let next : ones_below mask n + mask_bit mask n ≡ suc (ones_below mask n) = omega arith in
    taken_one mask (placed mask message m) n e
    ∙ ap₂ (λ (xs : List ℕ) (x : ℕ). xs ++ (x ∷ [])) before (placed_at n (omega arith) e)
    ∙ sym (take-suc message (ones_below mask n) 0 (omega arith)) ∙ ap (λ (k : ℕ). take k message) (sym next))
    (mask_cases mask n)
  where
    placed_at : (i : ℕ) → i < m → mask_bit mask i ≡ 1 → get_or (placed mask message m) i 0 ≡ get_or message (ones_below mask i) 0
    placed_at i l e = get_or-placed mask message m i l ∙ ap (λ (b : ℕ). cond (eqb b 1) (get_or message (ones_below mask i) 0) 0) e

-- ---- one bit taken, in place

pub take_next : (mask u w message : List ℕ) (i c bit : ℕ) → message ≡ splice w 0 (taken mask u i) → c ≡ ones_below mask i → c < length w → bit ≡ get_or u i 0
    → cond (eqb (mask_bit mask i) 1) (set message c bit) message ≡ splice w 0 (taken mask u (suc i))
take_next mask u w message i c bit m e l b =
    ⊎_elim
    (λ z. ap (λ (t : ℕ). cond (eqb t 1) (set message c bit) message) z ∙ m ∙ ap (splice w 0) (sym (taken_none mask u i z)))
    (λ o.
    ap (λ (t : ℕ). cond (eqb t 1) (set message c bit) message) o
    ∙ ap₂ (λ (k : ℕ) (x : ℕ). set message k x) (e ∙ sym (zero-add (ones_below mask i))) b
    ∙ ap (λ (r : List ℕ). set r (0 + ones_below mask i) (get_or u i 0)) m
    ∙ splice-snoc w 0 (taken mask u i) (ones_below mask i) (get_or u i 0) (length_taken mask u i) (omega arith)
    ∙ ap (splice w 0) (sym (taken_one mask u i o)))
    (mask_cases mask i)

pub take_start : (mask u w : List ℕ) → w ≡ splice w 0 (taken mask u 0)
unfolding taken splice
take_start mask u w = refl

-- ---- what is neither placed nor taken

-- bits after the last index are not taken
pub taken-take : (mask u : List ℕ) (m n : ℕ) → n ≤ m → taken mask (take m u) n ≡ taken mask u n
unfolding taken
taken-take mask u m zero l = refl
taken-take mask u m (suc n) l =
    ap₂ (λ (xs : List ℕ) (x : ℕ). xs ++ cond (eqb (mask_bit mask n) 1) (x ∷ []) []) (taken-take mask u m n (omega arith)) (get_or-take m u n 0 (omega arith))

-- what follows the message is not placed: at one index
placed_bit-append : (mask message rest : List ℕ) (n : ℕ) → ones_below mask n + mask_bit mask n ≤ length message → placed_bit mask (message ++ rest) n ≡ placed_bit mask message n
placed_bit-append mask message rest n l =
    ⊎_elim
    (λ e. ap (by (message ++ rest)) e ∙ sym (ap (by message) e))
    (λ e. ap (by (message ++ rest)) e ∙ get_or-append message rest 0 (ones_below mask n) (omega arith) ∙ sym (ap (by message) e))
    (mask_cases mask n)
  where
    by : List ℕ → ℕ → ℕ
    by xs b = cond (eqb b 1) (get_or xs (ones_below mask n) 0) 0

-- and at every index
pub placed-append : (mask message rest : List ℕ) (n : ℕ) → ones_below mask n ≤ length message → placed mask (message ++ rest) n ≡ placed mask message n
unfolding placed ones_below table
placed-append mask message rest zero l = refl
placed-append mask message rest (suc n) l =
    table-snoc (placed_bit mask (message ++ rest)) n
    ∙ ap₂ (λ (xs : List ℕ) (x : ℕ). xs ++ (x ∷ [])) (placed-append mask message rest n (omega arith)) (placed_bit-append mask message rest n l)
    ∙ sym (table-snoc (placed_bit mask message) n)

-- ---- bits taken out and placed again

-- the bits below n, if those at frozen indices are zero
placed_below : (mask u : List ℕ) (n : ℕ) → n ≤ length u → ((i : ℕ) → i < n → mask_bit mask i ≡ 0 → get_or u i 0 ≡ 0) → placed mask (taken mask u n) n ≡ take n u
unfolding placed taken table
placed_below mask u zero l frozen = refl
placed_below mask u (suc n) l frozen =
    let m : List ℕ = taken mask u n in
    let m' : List ℕ = m ++ (get_or u n 0 ∷ []) in
    let before = placed_below mask u n (omega arith) (λ i m. frozen i (omega arith)) in
    ⊎_elim
    (λ z. ap (λ (x : List ℕ). placed mask x (suc n)) (taken_none mask u n z) ∙ next m before (by_bit m z ∙ sym (frozen n (omega arith) z)))
    (λ o.
    ap (λ (x : List ℕ). placed mask x (suc n)) (taken_one mask u n o)
    ∙ next m' (placed-append mask m (get_or u n 0 ∷ []) n (omega (arith, length_taken mask u n)) ∙ before) (by_bit m' o ∙ last))
    (mask_cases mask n)
  where
    next : (m : List ℕ) → placed mask m n ≡ take n u → placed_bit mask m n ≡ get_or u n 0 → placed mask m (suc n) ≡ take (suc n) u
    next m e f = table-snoc (placed_bit mask m) n ∙ ap₂ (λ (xs : List ℕ) (x : ℕ). xs ++ (x ∷ [])) e f ∙ sym (take-suc u n 0 l)

    by_bit : (m : List ℕ) {b : ℕ} → mask_bit mask n ≡ b → placed_bit mask m n ≡ cond (eqb b 1) (get_or m (ones_below mask n) 0) 0
    by_bit m e = ap (λ (b : ℕ). cond (eqb b 1) (get_or m (ones_below mask n) 0) 0) e

    last : get_or (taken mask u n ++ (get_or u n 0 ∷ [])) (ones_below mask n) 0 ≡ get_or u n 0
    last =
        ap (λ (k : ℕ). get_or (taken mask u n ++ (get_or u n 0 ∷ [])) k 0) (sym (length_taken mask u n) ∙ sym (add-zero (length (taken mask u n))))
        ∙ get_or-append-add (taken mask u n) (get_or u n 0 ∷ []) 0 0

pub placed-taken : (mask u : List ℕ) (n : ℕ) → length u ≡ n → ((i : ℕ) → i < n → mask_bit mask i ≡ 0 → get_or u i 0 ≡ 0) → placed mask (taken mask u n) n ≡ u
placed-taken mask u n e frozen = placed_below mask u n (omega arith) frozen ∙ take_all n u (omega arith)
