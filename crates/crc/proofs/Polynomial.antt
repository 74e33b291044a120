-- Sums and multiples of coefficient lists.
use mathlib.Core.Path.{◌≡◌, refl, ap, ap₂, ◌∙◌}
use mathlib.Core.List.{List, [], ◌∷◌, ◌++◌}
use Prim.Native.Nat.{ℕ, zero, suc, ◌+◌, ◌*◌, ◌%◌, ◌≤◌, ◌<◌}
use native.Mathlib.Nat.{add-mod, add-mod-mod}
use native.Mathlib.Omega.{arith}
use lib.ListN.{length, replicate, length-append, length-replicate}
use Rattle.bits.specs.Claims.{Bits}
use Rattle.bits.proofs.Bitwise.{two_bits}
use Rattle.bits.proofs.Lists.{bits-nil, bits-cons, bits_tail, bits-append}
use Rattle.crc.specs.Polynomial.{raised, add_highest, scale}

-- two lists that begin alike and go on alike
pub cons : {x y : ℕ} {xs ys : List ℕ} → x ≡ y → xs ≡ ys → (x ∷ xs) ≡ (y ∷ ys)
cons p q = ap₂ (λ (x : ℕ) (l : List ℕ). x ∷ l) p q

-- ---- lengths

pub length-scale : (a : ℕ) (t : List ℕ) → length (scale a t) ≡ length t
length-scale a [] = refl
length-scale a (x ∷ t) = ap suc (length-scale a t)

pub length-add : (x y : List ℕ) → length x ≤ length y → length (add_highest x y) ≡ length y
length-add [] y h = refl
length-add (a ∷ x) [] h = absurd (omega arith)
length-add (a ∷ x) (b ∷ y) h = ap suc (length-add x y (omega arith))

pub length-raised : (x : List ℕ) (n : ℕ) → length (raised x n) ≡ length x + n
length-raised x n = omega (arith, length-append x (replicate n 0), length-replicate {A = ℕ} n 0)

-- ---- bits

pub bits-zeros : (n : ℕ) → Bits (replicate n 0)
bits-zeros zero = bits-nil
bits-zeros (suc n) = bits-cons (omega arith) (bits-zeros n)

pub bits-raised : (x : List ℕ) (n : ℕ) → Bits x → Bits (raised x n)
bits-raised x n b = bits-append x (replicate n 0) b (bits-zeros n)

pub bits-add : (x y : List ℕ) → Bits y → Bits (add_highest x y)
bits-add [] y b = b
bits-add (c ∷ x) [] b = b
bits-add (c ∷ x) (d ∷ y) b = bits-cons (omega arith) (bits-add x y (bits_tail b))

-- ---- sums

-- zeros addHighest nothing
pub add-zeros : (x : List ℕ) → Bits x → add_highest x (replicate (length x) 0) ≡ x
add-zeros [] b = refl
add-zeros (a ∷ x) b = cons (omega (arith, b.at 0)) (add-zeros x (bits_tail b))

pub zeros-add : (n : ℕ) (x : List ℕ) → n ≤ length x → Bits x → add_highest (replicate n 0) x ≡ x
zeros-add zero x h b = refl
zeros-add (suc n) [] h b = absurd (omega arith)
zeros-add (suc n) (a ∷ x) h b = cons (omega (arith, b.at 0)) (zeros-add n x (omega arith) (bits_tail b))

pub add_self : (x : List ℕ) → add_highest x x ≡ replicate (length x) 0
add_self [] = refl
add_self (a ∷ x) = cons (omega arith) (add_self x)

-- a sum of zeros is one of equals
pub add_equal : (x y : List ℕ) → length x ≡ length y → Bits x → Bits y → add_highest x y ≡ replicate (length y) 0 → x ≡ y
add_equal [] [] h b d e = refl
add_equal [] (c ∷ y) h b d e = absurd (omega arith)
add_equal (a ∷ x) [] h b d e = absurd (omega arith)
add_equal (a ∷ x) (c ∷ y) h b d e =
    let z : (a + c) % 2 ≡ 0 = cc in
    let w : add_highest x y ≡ replicate (length y) 0 = cc in
    cons (omega (arith, b.at 0, d.at 0)) (add_equal x y (omega arith) (bits_tail b) (bits_tail d) w)

-- what is added twice
pub add_twice : (x z : List ℕ) → length x ≤ length z → Bits z → add_highest x (add_highest x z) ≡ z
add_twice [] z h b = refl
add_twice (a ∷ x) [] h b = absurd (omega arith)
add_twice (a ∷ x) (c ∷ z) h b = cons (omega (arith, b.at 0)) (add_twice x z (omega arith) (bits_tail b))

-- of three lists, each no longer than the next
pub add_assoc : (x y z : List ℕ) → length x ≤ length y → length y ≤ length z → add_highest x (add_highest y z) ≡ add_highest (add_highest x y) z
add_assoc [] y z h k = refl
add_assoc (a ∷ x) [] z h k = absurd (omega arith)
add_assoc (a ∷ x) (b ∷ y) [] h k = absurd (omega arith)
add_assoc (a ∷ x) (b ∷ y) (c ∷ z) h k = cons (omega arith) (add_assoc x y z (omega arith) (omega arith))

pub add_swap : (x y z : List ℕ) → length x ≤ length y → length y ≤ length z → add_highest x (add_highest y z) ≡ add_highest y (add_highest x z)
add_swap [] y z h k = refl
add_swap (a ∷ x) [] z h k = absurd (omega arith)
add_swap (a ∷ x) (b ∷ y) [] h k = absurd (omega arith)
add_swap (a ∷ x) (b ∷ y) (c ∷ z) h k = cons (omega arith) (add_swap x y z (omega arith) (omega arith))

-- a sum with the front of a list
pub add-append : (x y z : List ℕ) → length x ≡ length y → add_highest x (y ++ z) ≡ add_highest x y ++ z
add-append [] [] z h = refl
add-append [] (b ∷ y) z h = refl
add-append (a ∷ x) [] z h = absurd (omega arith)
add-append (a ∷ x) (b ∷ y) z h = cons refl (add-append x y z (omega arith))

-- x · z^r plus y, if y has r coefficients
pub add_beside : (x y : List ℕ) → Bits x → Bits y → add_highest (replicate (length x) 0 ++ y) (raised x (length y)) ≡ x ++ y
add_beside [] [] b d = refl
add_beside [] (c ∷ y) b d = cons (omega (arith, d.at 0)) (add_beside [] y b (bits_tail d))
add_beside (a ∷ x) y b d = cons (omega (arith, b.at 0)) (add_beside x y (bits_tail b) d)

pub add-raised : (x y : List ℕ) (n : ℕ) → length x ≡ length y → add_highest (raised x n) (raised y n) ≡ raised (add_highest x y) n
add-raised [] [] zero h = refl
add-raised [] [] (suc n) h = cons refl (add-raised [] [] n h)
add-raised [] (b ∷ y) n h = absurd (omega arith)
add-raised (a ∷ x) [] n h = absurd (omega arith)
add-raised (a ∷ x) (b ∷ y) n h = cons refl (add-raised x y n (omega arith))

-- multiples of one list, each added to a list, addHighest up
coefficient_scaled : (a b c u v : ℕ) → a < 2 → b < 2 → ((a + b) % 2 * c + (u + v) % 2) % 2 ≡ ((a * c + u) % 2 + (b * c + v) % 2) % 2
coefficient_scaled a b c u v l k =
    add-mod-mod ((a + b) % 2 * c) (u + v) 2
    ∙ two_bits (λ a b. ((a + b) % 2 * c + (u + v)) % 2 ≡ (a * c + u + (b * c + v)) % 2) (omega arith) (omega arith) (omega arith) (omega arith) a b l k
    ∙ add-mod (a * c + u) (b * c + v) 2

pub add-scaled : (a b : ℕ) (t x y : List ℕ) → a < 2 → b < 2 → length t ≤ length x → length x ≡ length y
    → add_highest (scale ((a + b) % 2) t) (add_highest x y) ≡ add_highest (add_highest (scale a t) x) (add_highest (scale b t) y)
add-scaled a b [] x y l k h e = refl
add-scaled a b (c ∷ t) [] y l k h e = absurd (omega arith)
add-scaled a b (c ∷ t) (u ∷ x) [] l k h e = absurd (omega arith)
add-scaled a b (c ∷ t) (u ∷ x) (v ∷ y) l k h e =
    cons (coefficient_scaled a b c u v l k) (add-scaled a b t x y l k (omega arith) (omega arith))
