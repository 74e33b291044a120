-- Choices by tests.
use mathlib.Core.Path.{◌≡◌, refl, sym}
use mathlib.Core.Bool.{Bool, true, false, not, ◌&&◌, ◌||◌, cond, true≢false}
use lib.Dec.{T}

-- what holds of each choice if the test leads to it
pub cond_ind {ℓ} : {X : Type 0} (P : X → Type ℓ) (t : Bool) (x y : X) → (T t → P x) → (T (not t) → P y) → P (cond t x y)
cond_ind P true x y f g = f tt
cond_ind P false x y f g = g tt

-- if `a && b` holds, both do
pub and_true : (a b : Bool) → (a && b) ≡ true → (a ≡ true) × (b ≡ true)
and_true true b e = (refl, e)
and_true false b e = absurd (true≢false (sym e))

-- if `a || b` does not hold, neither does
pub or_false : (a b : Bool) → (a || b) ≡ false → (a ≡ false) × (b ≡ false)
or_false false b e = (refl, e)
or_false true b e = absurd (true≢false e)

-- `a || b` is a if a holds
pub or_first : (a b : Bool) → a ≡ true → a ≡ (a || b)
or_first true b e = refl
or_first false b e = absurd (true≢false (sym e))

-- `a || b` is b if a does not hold
pub or_second : (a b : Bool) → a ≡ false → b ≡ (a || b)
or_second false b e = refl
or_second true b e = absurd (true≢false e)

-- a test that cannot fail holds, and one that cannot hold fails
pub is_true : (t : Bool) → (t ≡ false → ⊥) → t ≡ true
is_true true f = refl
is_true false f = absurd (f refl)

pub is_false : (t : Bool) → (t ≡ true → ⊥) → t ≡ false
is_false true f = absurd (f refl)
is_false false f = refl
