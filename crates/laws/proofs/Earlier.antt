-- Pairs compared by a number first, and the order on lists of numbers that follows: of two different lists one is earlier.
use mathlib.Core.Path.{◌≡◌, refl, sym, ap, ap₂, ◌∙◌}
use mathlib.Core.Bool.{Bool, true, false, ◌&&◌, ◌||◌, and-eq-true_iff, true≢false}
use mathlib.Core.Logic.{◌⊎◌, inl, inr, ⊎_elim}
use mathlib.Core.List.{List, [], ◌∷◌}
use Prim.Native.Nat.{ℕ, ◌<◌}
use native.Mathlib.Omega.{arith}
use borrow.Author.Tests.{ltb-true, ltb-false, eqb-true, lt-ltb, eq-eqb}
use lib.Dec.{ltb, eqb}
use Rattle.laws.specs.Insert.{earlier}
use Rattle.laws.proofs.Choice.{or_false, is_false}

-- a is lower than b, or equal and t decides
abbrev first_by : ℕ → ℕ → Bool → Bool
first_by a b t = ltb a b || (eqb a b && t)

pub first_by-of : (a b : ℕ) (t : Bool) → first_by a b t ≡ true → (a < b) ⊎ ((a ≡ b) × (t ≡ true))
first_by-of a b t = go (ltb a b) (ltb-true a b)
  where
    go : (u : Bool) → (u ≡ true → a < b) → (u || (eqb a b && t)) ≡ true → (a < b) ⊎ ((a ≡ b) × (t ≡ true))
    go true f e = inl (f refl)
    go false f e = let p = (and-eq-true_iff (eqb a b) t).0 e in inr (eqb-true a b p.0, p.1)

less_first : (a b : ℕ) (t : Bool) → a < b → first_by a b t ≡ true
less_first a b t l = ap (λ (u : Bool). u || (eqb a b && t)) (lt-ltb a b l)

same_first : (a b : ℕ) (t : Bool) → a ≡ b → t ≡ true → first_by a b t ≡ true
same_first a b t e f = go (ltb a b)
  where
    go : (u : Bool) → (u || (eqb a b && t)) ≡ true
    go true = refl
    go false = (and-eq-true_iff (eqb a b) t).1 (eq-eqb a b e, f)

pub first_by_trans : (a b c : ℕ) (t u r : Bool) → (t ≡ true → u ≡ true → r ≡ true) → first_by a b t ≡ true → first_by b c u ≡ true → first_by a c r ≡ true
first_by_trans a b c t u r f p q =
    ⊎_elim (λ l. less_first a c r (⊎_elim (λ m. omega arith) (λ m. omega (arith, m.0)) (first_by-of b c u q)))
    (λ l. ⊎_elim (λ m. less_first a c r (omega (arith, l.0))) (λ m. same_first a c r (l.0 ∙ m.0) (f l.1 m.1)) (first_by-of b c u q))
    (first_by-of a b t p)

pub not_first : (a : ℕ) (t : Bool) → t ≡ false → first_by a a t ≡ false
not_first a t f = is_false (first_by a a t) (λ e. ⊎_elim (λ l. omega arith) (λ l. true≢false (sym l.1 ∙ f)) (first_by-of a a t e))

-- neither is first
pub first_by_either : (a b : ℕ) (t u : Bool) → first_by a b t ≡ false → first_by b a u ≡ false → (a ≡ b) × (t ≡ false) × (u ≡ false)
first_by_either a b t u p q =
    let same : a ≡ b = omega (arith, ltb-false a b (or_false (ltb a b) _ p).0, ltb-false b a (or_false (ltb b a) _ q).0) in
    (same, is_false t (λ f. true≢false (sym (same_first a b t same f) ∙ p)), is_false u (λ f. true≢false (sym (same_first b a u (sym same) f) ∙ q)))

-- ---- lists of numbers

pub earlier_trans : (is js ks : List ℕ) → earlier is js ≡ true → earlier js ks ≡ true → earlier is ks ≡ true
earlier_trans is js [] p q = absurd (true≢false (sym q))
earlier_trans [] js (k ∷ ks) p q = refl
earlier_trans (i ∷ is) [] (k ∷ ks) p q = absurd (true≢false (sym p))
earlier_trans (i ∷ is) (j ∷ js) (k ∷ ks) p q = first_by_trans i j k (earlier is js) (earlier js ks) (earlier is ks) (earlier_trans is js ks) p q

pub not_earlier : (is : List ℕ) → earlier is is ≡ false
not_earlier [] = refl
not_earlier (i ∷ is) = not_first i (earlier is is) (not_earlier is)

pub neither_earlier : (is js : List ℕ) → earlier is js ≡ false → earlier js is ≡ false → is ≡ js
neither_earlier [] [] p q = refl
neither_earlier [] (j ∷ js) p q = absurd (true≢false p)
neither_earlier (i ∷ is) [] p q = absurd (true≢false q)
neither_earlier (i ∷ is) (j ∷ js) p q =
    let e = first_by_either i j (earlier is js) (earlier js is) p q in
    ap₂ (λ (k : ℕ) (ks : List ℕ). k ∷ ks) e.0 (neither_earlier is js e.1 e.2)
