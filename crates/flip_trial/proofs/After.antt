-- The q of demand 3 under a mask with the information indices 3, 5, 6 and 7 of eight: each field of `FirstAfter` is read, and q is a number.
use mathlib.Core.Path.{◌≡◌, refl, ap}
use mathlib.Core.Logic.{⊎_elim}
use mathlib.Core.List.{List, [], ◌∷◌}
use Prim.Native.Nat.{ℕ}
use native.Mathlib.Omega.{arith}
use Rattle.laws.proofs.Indices.{lt_cases}
use Rattle.bits.specs.Mask.{mask_bit}
use Rattle.flip_trial.specs.FirstAfter.{FirstAfter}

abbrev pub some_mask : List ℕ
some_mask = 0xE8 ∷ []

-- after 3 the next information index is 5, and 4 is frozen
pub after_3 : {q : ℕ} → FirstAfter some_mask 8 3 q → q ≡ 5
after_3 {q} f =
    let one : mask_bit some_mask 5 ≡ 1 = refl in
    let none : mask_bit some_mask 4 ≡ 0 = refl in
    lt_cases 5 q (λ l. absurd (omega (arith, f.between 5 (omega arith) l)))
    (λ l. lt_cases 4 q (λ m. omega arith)
    (λ m. let e : q ≡ 4 = omega (arith, f.above) in absurd (⊎_elim (λ x. omega arith) (λ x. omega (arith, ap (mask_bit some_mask) e)) f.ends)))

-- after 5 it is 6, after 6 it is 7
pub after_5 : {q : ℕ} → FirstAfter some_mask 8 5 q → q ≡ 6
after_5 {q} f =
    let one : mask_bit some_mask 6 ≡ 1 = refl in
    lt_cases 6 q (λ l. absurd (omega (arith, f.between 6 (omega arith) l))) (λ l. omega (arith, f.above))

pub after_6 : {q : ℕ} → FirstAfter some_mask 8 6 q → q ≡ 7
after_6 {q} f =
    let one : mask_bit some_mask 7 ≡ 1 = refl in
    lt_cases 7 q (λ l. absurd (omega (arith, f.between 7 (omega arith) l))) (λ l. omega (arith, f.above))

-- after 7 there is none
pub after_7 : {q : ℕ} → FirstAfter some_mask 8 7 q → q ≡ 8
after_7 f = omega (arith, f.above, f.most)
