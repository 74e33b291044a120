-- Indices by cases, lists that agree index by index, and members by their index.
use mathlib.Core.Path.{◌≡◌, refl, sym, ap₂, ◌∙◌, subst}
use mathlib.Core.Bool.{Bool, true, false}
use mathlib.Core.List.{List, [], ◌∷◌, ◌++◌, Memᴰ}
use Prim.Native.Nat.{ℕ, zero, suc, ◌+◌, ◌-◌, ◌^◌, ◌<◌, ◌≤◌}
use native.Mathlib.Nat.{two-pow-succ}
use native.Mathlib.Omega.{arith}
use borrow.Author.Tests.{ltb-true, ltb-false}
use lib.Dec.{ltb}
use lib.ListN.{length, get_or, take}
use lib.Seq.{take-suc}

pub lt_cases {ℓ} : {C : Type ℓ} (a b : ℕ) → (a < b → C) → (b ≤ a → C) → C
lt_cases {C} a b f g = go (ltb a b) refl
  where
    go : (t : Bool) → ltb a b ≡ t → C
    go true e = f (ltb-true a b e)
    go false e = g (ltb-false a b e)

-- indices below 2^(s + 1), half by half
pub by-halves {ℓ} : (P : ℕ → Type ℓ) (s : ℕ) → ((i : ℕ) → i < 2 ^ s → P i) → ((i : ℕ) → i < 2 ^ s → P (2 ^ s + i)) → (i : ℕ) → i < 2 ^ suc s → P i
by-halves P s f g i l =
    lt_cases i (2 ^ s) (f i)
    (λ c. let k : 2 ^ s + (i - 2 ^ s) ≡ i = omega arith in subst P k (g (i - 2 ^ s) (omega (arith, two-pow-succ s))))

-- two lists agree below i if each element follows from those before it
pub take-agree {ℓ} : {A : Type ℓ} (xs ys : List A) (d : A) (i : ℕ) → i ≤ length xs → i ≤ length ys → ((j : ℕ) → j < i → take j xs ≡ take j ys → get_or xs j d ≡ get_or ys j d) → take i xs ≡ take i ys
take-agree xs ys d zero l m f = refl
take-agree xs ys d (suc i) l m f =
    let e = take-agree xs ys d i (omega arith) (omega arith) (λ j c. f j (omega arith)) in
    take-suc xs i d l ∙ ap₂ (λ a b. a ++ (b ∷ [])) e (f i (omega arith) e) ∙ sym (take-suc ys i d m)

-- what stands at an index is a member
pub member-at {ℓ} : {A : Type ℓ} (d : A) (xs : List A) (i : ℕ) → i < length xs → Memᴰ (get_or xs i d) xs
member-at d [] i l = absurd (omega arith)
member-at d (x ∷ xs) zero l = Memᴰ.head refl
member-at d (x ∷ xs) (suc i) l = Memᴰ.tail (member-at d xs i (omega arith))
