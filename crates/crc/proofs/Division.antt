-- Long division: the dividend is the quotient times the divisor, plus the remainder.
use mathlib.Core.Path.{◌≡◌, refl, sym, ap, ◌∙◌}
use mathlib.Core.List.{List, [], ◌∷◌, ◌++◌}
use Prim.Native.Nat.{ℕ, zero, suc, ◌+◌, ◌*◌, ◌%◌}
use native.Mathlib.Omega.{arith}
use lib.ListN.{length, replicate, length-append, length-replicate}
use Rattle.bits.specs.Claims.{Bits}
use Rattle.bits.proofs.Lists.{bits-nil, bits-cons, bits_tail}
use Rattle.crc.specs.Polynomial.{add_highest, scale, rem}
use Rattle.crc.specs.Claims.{mul, quo}
use Rattle.crc.proofs.Polynomial.{cons, length-scale, length-add, bits-zeros, bits-add, add_self, add_twice, add_swap}

pub length_after_zeros : (m : ℕ) (s : List ℕ) → length (replicate m 0 ++ s) ≡ m + length s
length_after_zeros m s = omega (arith, length-append (replicate m 0) s, length-replicate {A = ℕ} m 0)

-- ---- the remainder and the quotient

-- a step leaves one coefficient less
length_struck : (t : List ℕ) (m a : ℕ) (p : List ℕ) → length (a ∷ p) ≡ suc m + length t → length (add_highest (scale a t) p) ≡ m + length t
length_struck t m a p h = length-add (scale a t) p (omega (arith, length-scale a t)) ∙ omega arith

pub length-rem : (t : List ℕ) (m : ℕ) (p : List ℕ) → length p ≡ m + length t → length (rem t m p) ≡ length t
length-rem t zero p h = omega arith
length-rem t (suc m) [] h = absurd (omega arith)
length-rem t (suc m) (a ∷ p) h = length-rem t m (add_highest (scale a t) p) (length_struck t m a p h)

pub bits-rem : (t : List ℕ) (m : ℕ) (p : List ℕ) → Bits p → Bits (rem t m p)
bits-rem t zero p b = b
bits-rem t (suc m) [] b = b
bits-rem t (suc m) (a ∷ p) b = bits-rem t m (add_highest (scale a t) p) (bits-add (scale a t) p (bits_tail b))

pub bits-quo : (t : List ℕ) (m : ℕ) (p : List ℕ) → Bits p → Bits (quo t m p)
bits-quo t zero p b = bits-nil
bits-quo t (suc m) [] b = b
bits-quo t (suc m) (a ∷ p) b = bits-cons (b.at 0) (bits-quo t m (add_highest (scale a t) p) (bits-add (scale a t) p (bits_tail b)))

-- the remainder and the dividend make the quotient times the divisor
pub rem-quo : (t : List ℕ) (m : ℕ) (p : List ℕ) → length p ≡ m + length t → Bits p → add_highest (replicate m 0 ++ rem t m p) p ≡ mul t (quo t m p)
rem-quo t zero p h b = add_self p ∙ ap (λ (n : ℕ). replicate n 0) (let e : length p ≡ length t = omega arith in e)
rem-quo t (suc m) [] h b = absurd (omega arith)
rem-quo t (suc m) (a ∷ p) h b =
    let x = scale a t in
    let l = length_struck t m a p h in
    let y = replicate m 0 ++ rem t m (add_highest x p) in
    let n = length_after_zeros m (rem t m (add_highest x p)) in
    let o = length-rem t m (add_highest x p) l in
    let k = length-scale a t in
    let i = length-add y p (omega arith) in
    cons (omega arith)
    (sym (ap (add_highest x) (sym (add_swap x y p (omega arith) (omega arith))) ∙ add_twice x (add_highest y p) (omega arith) (bits-add y p (bits_tail b)))
    ∙ ap (add_highest x) (rem-quo t m (add_highest x p) l (bits-add x p (bits_tail b))))

-- what is added below z^r is added to the remainder
pub rem-low : (t : List ℕ) (m : ℕ) (p s : List ℕ) → length p ≡ m + length t → length s ≡ length t → Bits p
    → rem t m (add_highest (replicate m 0 ++ s) p) ≡ add_highest s (rem t m p)
rem-low t zero p s h k b = refl
rem-low t (suc m) [] s h k b = absurd (omega arith)
rem-low t (suc m) (a ∷ p) s h k b =
    let e : (0 + a) % 2 ≡ a = omega (arith, b.at 0) in
    let x = scale a t in
    let y = replicate m 0 ++ s in
    let o = length-scale a t in
    let n = length_after_zeros m s in
    ap (rem t m) (ap (λ (c : ℕ). add_highest (scale c t) (add_highest y p)) e ∙ add_swap x y p (omega arith) (omega arith))
    ∙ rem-low t m (add_highest x p) s (length_struck t m a p h) k (bits-add x p (bits_tail b))

-- ---- multiples

pub length-mul : (t q : List ℕ) → length (mul t q) ≡ length q + length t
length-mul t [] = omega (arith, length-replicate {A = ℕ} (length t) 0)
length-mul t (a ∷ q) =
    let k = length-scale a t in
    let m = length-mul t q in
    ap suc (length-add (scale a t) (mul t q) (omega arith)) ∙ omega arith

bits-mul : (t q : List ℕ) → Bits (mul t q)
bits-mul t [] = bits-zeros (length t)
bits-mul t (a ∷ q) = bits-add (scale a (1 ∷ t)) (0 ∷ mul t q) (bits-cons (omega arith) (bits-mul t q))

-- a multiple leaves nothing
pub rem-mul : (t q : List ℕ) → Bits q → rem t (length q) (mul t q) ≡ replicate (length t) 0
rem-mul t [] b = refl
rem-mul t (a ∷ q) b =
    let e : (a * 1 + 0) % 2 ≡ a = omega (arith, b.at 0) in
    let x = scale a t in
    let k = length-scale a t in
    let m = length-mul t q in
    ap (rem t (length q)) (ap (λ (c : ℕ). add_highest (scale c t) (add_highest x (mul t q))) e ∙ add_twice x (mul t q) (omega arith) (bits-mul t q))
    ∙ rem-mul t q (bits_tail b)
