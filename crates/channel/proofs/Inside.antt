-- Values in −31..31, one by one.
use mathlib.Core.Path.{◌≡◌, refl, sym, ap, ◌∙◌}
use mathlib.Core.Bool.{Bool, true, false, not, ◌&&◌}
use Prim.Native.Nat.{ℕ, suc, ◌+◌, ◌-◌, ◌%◌, ◌≤◌, ◌<◌}
use native.Mathlib.Omega.{arith}
use borrow.Author.Tests.{ltb-true, ltb-false, eqb-true, eqb-false, lt-ltb, le-ltb, le-leb, lt-leb, eq-eqb, ne_eqb}
use lib.Dec.{ltb, leb, eqb, ltb→lt, nltb→le}
use lib.IntN.{ℤ, pos, nat_abs, ◌-ℤ◌}
use Rattle.laws.specs.First.{first_where}
use Rattle.laws.proofs.Choice.{cond_ind}
use Rattle.laws.proofs.First.{first_le, first-before, first_holds}
use Rattle.channel.specs.Channel.{channel_value}

-- ---- one value: its byte, 31 higher, is below 63

same_test : (x y : ℕ) → (y ≤ 31 → x < 63) → (31 < y → 63 ≤ x) → ltb x 63 ≡ not (ltb 31 y)
same_test x y small large = go (ltb 31 y) refl
  where
    go : (t : Bool) → ltb 31 y ≡ t → ltb x 63 ≡ not t
    go true e = le-ltb x 63 (large (ltb-true 31 y e))
    go false e = lt-ltb x 63 (small (ltb-false 31 y e))

pub inside_is : (b : ℕ) → b < 256 → ltb ((b + 31) % 256) 63 ≡ not (ltb 31 (nat_abs (channel_value b)))
unfolding channel_value
inside_is b l =
    cond_ind (λ (z : ℤ). ltb ((b + 31) % 256) 63 ≡ not (ltb 31 (nat_abs z))) (ltb b 128) (pos b) (pos b -ℤ pos 256)
    (λ t. let below : b < 128 = ltb→lt b 128 t in same_test ((b + 31) % 256) b (λ m. omega arith) (λ m. omega arith))
    (λ t. let above : 128 ≤ b = nltb→le b 128 t in rw (lt-ltb b 256 l) (same_test ((b + 31) % 256) (suc (256 - suc b)) (λ m. omega arith) (λ m. omega arith)))

-- ---- a list of tests: none of the first i holds if the first index that holds is not below i

module _ (test : ℕ → Bool) (n : ℕ) where
  abbrev first : ℕ
  first = first_where test n

  pub none-next : (i : ℕ) → i < n → (leb i first && not (test i)) ≡ leb (i + 1) first
  none-next i l = go (ltb i first) refl
    where
      at : (t : Bool) → eqb first i ≡ t → first ≤ i → (leb i first && not (test i)) ≡ leb (i + 1) first
      at true e m =
          let here : first ≡ i = eqb-true first i e in
          let holds : test i ≡ true = ap test (sym here) ∙ first_holds test n (omega (arith, here)) in
          rw (le-leb i first (omega arith), holds) (sym (lt-leb (i + 1) first (omega arith)))
      at false e m =
          let apart : first < i = go (ltb first i) refl in
          rw (lt-leb i first apart) (sym (lt-leb (i + 1) first (omega arith)))
        where
          go : (t : Bool) → ltb first i ≡ t → first < i
          go true f = ltb-true first i f
          go false f = absurd (eqb-false first i e (omega (arith, ltb-false first i f)))

      go : (t : Bool) → ltb i first ≡ t → (leb i first && not (test i)) ≡ leb (i + 1) first
      go true e =
          let m : i < first = ltb-true i first e in
          rw (le-leb i first (omega arith), first-before test n i m) (sym (le-leb (i + 1) first (omega arith)))
      go false e = at (eqb first i) refl (ltb-false i first e)

  pub none-all : leb n first ≡ eqb first n
  none-all = go (ltb first n) refl
    where
      go : (t : Bool) → ltb first n ≡ t → leb n first ≡ eqb first n
      go true e =
          let m : first < n = ltb-true first n e in
          lt-leb n first m ∙ sym (ne_eqb first n (λ same. omega arith))
      go false e =
          let m : n ≤ first = ltb-false first n e in
          le-leb n first m ∙ sym (eq-eqb first n (omega (arith, first_le test n)))
