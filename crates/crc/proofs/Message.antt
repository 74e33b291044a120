-- What the check is good for: a payload and its check make a multiple of the divisor, no other r bits do, and only they pass.
use mathlib.Core.Path.{◌≡◌, refl, sym, ap, ap₂, ◌∙◌, subst, subst⁻¹}
use mathlib.Core.Bool.{Bool, true, false, ◌&&◌, false≢true, and-eq-true_iff}
use mathlib.Core.Logic.{◌↔◌}
use mathlib.Core.List.{List, [], ◌∷◌, ◌++◌}
use Prim.Native.Nat.{ℕ, ◌+◌}
use native.Mathlib.Omega.{arith}
use borrow.Author.Tests.{eqb-true, eq-eqb}
use lib.Dec.{eqb}
use lib.ListN.{length, replicate, length-append, replicate-append-replicate}
use lib.Seq.{take_at, drop_at}
use Rattle.bits.specs.Bit.{bits_of}
use Rattle.bits.specs.Claims.{Bits}
use Rattle.bits.proofs.Lists.{bits-append}
use Rattle.crc.specs.Polynomial.{raised, add_highest, rem}
use Rattle.crc.specs.Claims.{Multiple, mul, quo}
use Rattle.crc.specs.Check.{dividend, check_of, same, passes}
use Rattle.crc.proofs.Polynomial.{cons, length-add, length-raised, bits-raised, bits-add, zeros-add, add_equal, add_swap, add_beside}
use Rattle.bits.proofs.BitsOf.{length-bits_of, bits_of-zero}
use Rattle.crc.proofs.Division.{length_after_zeros, length-rem, bits-rem, bits-quo, rem-quo, rem-low, length-mul, rem-mul}

module _ (t start payload : List ℕ) (width : length start ≡ length t) where
  length-dividend : length (dividend t start payload) ≡ length payload + length t
  length-dividend =
      let s = length-raised start (length payload) in
      let p = length-raised payload (length t) in
      length-add (raised start (length payload)) (raised payload (length t)) (omega arith) ∙ p

  pub length_check : length (check_of t start payload) ≡ length t
  unfolding check_of
  length_check = length-rem t (length payload) (dividend t start payload) length-dividend

module _ (t start payload : List ℕ) (width : length start ≡ length t) (bits : Bits payload) where
  bits-dividend : Bits (dividend t start payload)
  bits-dividend = bits-add (raised start (length payload)) (raised payload (length t)) (bits-raised payload (length t) bits)

  pub bits_check : Bits (check_of t start payload)
  unfolding check_of
  bits_check = bits-rem t (length payload) (dividend t start payload) bits-dividend

  -- r bits after the payload are added to the dividend
  message-sum : (s : List ℕ) → length s ≡ length t → Bits s
      → add_highest (raised start (length payload)) (payload ++ s) ≡ add_highest (replicate (length payload) 0 ++ s) (dividend t start payload)
  message-sum s h d =
      let a = raised start (length payload) in
      let z : List ℕ = replicate (length payload) 0 ++ s in
      let la = length-raised start (length payload) in
      let lz = length_after_zeros (length payload) s in
      let lp = length-raised payload (length t) in
      ap (add_highest a) (sym (add_beside payload s bits d) ∙ ap (λ (n : ℕ). add_highest z (raised payload n)) h)
      ∙ add_swap a z (raised payload (length t)) (omega arith) (omega arith)

  -- start · z^k + payload · z^r + check is a multiple of z^r + t
  pub check_multiple : Multiple t (add_highest (raised start (length payload)) (payload ++ check_of t start payload))
  unfolding check_of
  check_multiple = record {
    quotient = quo t (length payload) (dividend t start payload);
    bits = bits-quo t (length payload) (dividend t start payload) bits-dividend;
    product =
        message-sum (check_of t start payload) (length_check t start payload width) bits_check
        ∙ rem-quo t (length payload) (dividend t start payload) (length-dividend t start payload width) bits-dividend;
  }

  -- and no other r bits in the place of the check make it one
  pub check_only : (s : List ℕ) → length s ≡ length t → Bits s → Multiple t (add_highest (raised start (length payload)) (payload ++ s)) → s ≡ check_of t start payload
  unfolding check_of
  check_only s h d m =
      let q = m.quotient in
      let lc = length_check t start payload width in
      let la = length-raised start (length payload) in
      let ls = length-append payload s in
      let lm = length-mul t q in
      let lq : length payload ≡ length q =
      omega (arith, ap length m.product, length-add (raised start (length payload)) (payload ++ s) (omega arith)) in
      add_equal s (check_of t start payload) (h ∙ sym lc) d bits_check
      (sym (rem-low t (length payload) (dividend t start payload) s (length-dividend t start payload width) h bits-dividend)
      ∙ ap (rem t (length payload)) (sym (message-sum s h d) ∙ m.product)
      ∙ ap (λ (n : ℕ). rem t n (mul t q)) lq
      ∙ rem-mul t q m.bits
      ∙ ap (λ (n : ℕ). replicate n 0) (sym lc))

-- A description of kind 1 has the start 0: payload · z^r + check is a multiple of the divisor, and no other r bits in the place of the check
-- make it one.
module _ (r poly : ℕ) (payload : List ℕ) (bits : Bits payload) where
  same_width : length (bits_of r 0) ≡ length (bits_of r poly)
  same_width = length-bits_of r 0 ∙ sym (length-bits_of r poly)

  add_no_start : (s : List ℕ) → length s ≡ r → Bits s → add_highest (raised (bits_of r 0) (length payload)) (payload ++ s) ≡ payload ++ s
  add_no_start s h d =
      ap (λ (z : List ℕ). add_highest (raised z (length payload)) (payload ++ s)) (bits_of-zero r)
      ∙ ap (λ (z : List ℕ). add_highest z (payload ++ s)) (replicate-append-replicate r (length payload) 0)
      ∙ zeros-add (r + length payload) (payload ++ s) (omega (arith, length-append payload s)) (bits-append payload s bits d)

  pub check_multiple_zero : Multiple (bits_of r poly) (payload ++ check_of (bits_of r poly) (bits_of r 0) payload)
  check_multiple_zero =
      subst (Multiple (bits_of r poly))
      (add_no_start (check_of (bits_of r poly) (bits_of r 0) payload)
      (length_check (bits_of r poly) (bits_of r 0) payload same_width ∙ length-bits_of r poly)
      (bits_check (bits_of r poly) (bits_of r 0) payload same_width bits))
      (check_multiple (bits_of r poly) (bits_of r 0) payload same_width bits)

  pub check_only_zero : (s : List ℕ) → length s ≡ r → Bits s → Multiple (bits_of r poly) (payload ++ s) → s ≡ check_of (bits_of r poly) (bits_of r 0) payload
  check_only_zero s h d m =
      check_only (bits_of r poly) (bits_of r 0) payload same_width bits s (h ∙ sym (length-bits_of r poly)) d
      (subst⁻¹ (Multiple (bits_of r poly)) (add_no_start s h d) m)

-- ---- equal lists, and messages that pass

same_refl : (x : List ℕ) → same x x ≡ true
same_refl [] = refl
same_refl (a ∷ x) = ap₂ ◌&&◌ (eq-eqb a a refl) (same_refl x)

same_true : (x y : List ℕ) → same x y ≡ true → x ≡ y
same_true [] [] e = refl
same_true [] (b ∷ y) e = absurd (false≢true e)
same_true (a ∷ x) [] e = absurd (false≢true e)
same_true (a ∷ x) (b ∷ y) e =
    let p = (and-eq-true_iff (eqb a b) (same x y)).0 e in
    cons (eqb-true a b p.0) (same_true x y p.1)

-- true exactly if the two lists are equal
pub same_iff : (x y : List ℕ) → (same x y ≡ true) ↔ (x ≡ y)
same_iff x y = (same_true x y, λ e. subst (λ (z : List ℕ). same x z ≡ true) e (same_refl x))

module _ (t start payload : List ℕ) where
  -- a payload, then s
  passes-message : (s : List ℕ) → passes t start (length payload) (payload ++ s) ≡ same s (check_of t start payload)
  passes-message s =
      ap₂ (λ (x y : List ℕ). same x (check_of t start y)) (drop_at payload s (length payload) refl) (take_at payload s (length payload) refl)

  -- a payload with its check passes
  pub check_passes : passes t start (length payload) (payload ++ check_of t start payload) ≡ true
  check_passes = passes-message (check_of t start payload) ∙ same_refl (check_of t start payload)

  -- and with any other bits in the place of the check it does not pass
  pub changed_check_fails : (s : List ℕ) → (s ≡ check_of t start payload → ⊥) → passes t start (length payload) (payload ++ s) ≡ false
  changed_check_fails s h = passes-message s ∙ go (same s (check_of t start payload)) refl
    where
      go : (v : Bool) → same s (check_of t start payload) ≡ v → v ≡ false
      go true e = absurd (h (same_true s (check_of t start payload) e))
      go false e = refl
