-- Start values: if the divisor's lowest coefficient is 1, z is invertible modulo it. So the check of zeros is zero only if the start is zero,
-- and no payload has one check under two starts.
use mathlib.Core.Path.{◌≡◌, refl, sym, ap, ◌∙◌}
use mathlib.Core.List.{List, [], ◌∷◌}
use Prim.Native.Nat.{ℕ, zero, suc, ◌+◌, ◌-◌, ◌*◌, ◌%◌, ◌<◌}
use native.Mathlib.Omega.{arith}
use lib.ListN.{length, replicate, get_or, length-replicate, get_or-replicate, replicate-append-replicate}
use lib.Seq.{get_or-append-add}
use Rattle.bits.specs.Claims.{Bits}
use Rattle.bits.proofs.Lists.{bits_tail}
use Rattle.crc.specs.Polynomial.{raised, add_highest, scale}
use Rattle.crc.specs.Check.{check_of}
use Rattle.crc.specs.Clauses.{step}
use Rattle.crc.proofs.Polynomial.{cons, length-scale, length-add, length-raised, bits-zeros, bits-raised, bits-add, zeros-add, add_self, add_equal}
use Rattle.crc.proofs.Register.{run, length-step, bits-step, run_check, step_linear}

-- coefficients of a multiple and of a sum
get_or-scale : (a : ℕ) (t : List ℕ) (i : ℕ) → get_or (scale a t) i 0 ≡ a * get_or t i 0
get_or-scale a [] i = omega arith
get_or-scale a (b ∷ t) zero = refl
get_or-scale a (b ∷ t) (suc i) = get_or-scale a t i

get_or-add : (x y : List ℕ) (i : ℕ) → i < length x → i < length y → get_or (add_highest x y) i 0 ≡ (get_or x i 0 + get_or y i 0) % 2
get_or-add [] y i l k = absurd (omega arith)
get_or-add (a ∷ x) [] i l k = absurd (omega arith)
get_or-add (a ∷ x) (b ∷ y) zero l k = refl
get_or-add (a ∷ x) (b ∷ y) (suc i) l k = get_or-add x y i (omega arith) (omega arith)

-- nothing times a list
scale-zero : (t : List ℕ) → scale 0 t ≡ replicate (length t) 0
scale-zero [] = refl
scale-zero (b ∷ t) = cons (omega arith) (scale-zero t)

-- a list that is all zeros once a zero is appended
raised-zeros : (g : List ℕ) (n : ℕ) → length g ≡ n → raised g 1 ≡ replicate (suc n) 0 → g ≡ replicate n 0
raised-zeros [] zero h e = refl
raised-zeros [] (suc n) h e = absurd (omega arith)
raised-zeros (a ∷ g) zero h e = absurd (omega arith)
raised-zeros (a ∷ g) (suc n) h e =
    let first : a ≡ 0 = cc in
    let rest : raised g 1 ≡ replicate (suc n) 0 = cc in
    cons first (raised-zeros g n (omega arith) rest)

-- the lowest coefficient, of z^0
abbrev pub lowest : List ℕ → ℕ
lowest t = get_or t (length t - 1) 0

length_run : (t g bs : List ℕ) → length g ≡ length t → length (run t g bs) ≡ length t
length_run t g [] h = h
length_run t g (b ∷ bs) h = length_run t (step t g b) bs (length-step t g b h)

-- what two registers hold after one payload, added up, is what their sum holds after zeros
run-sum : (t bs x y : List ℕ) → length x ≡ length t → length y ≡ length t → Bits bs
    → run t (add_highest x y) (replicate (length bs) 0) ≡ add_highest (run t x bs) (run t y bs)
run-sum t [] x y h k p = refl
run-sum t (b ∷ bs) x y h k p =
    let none : 0 ≡ (b + b) % 2 = omega arith in
    ap (λ (g : List ℕ). run t g (replicate (length bs) 0)) (ap (step t (add_highest x y)) none ∙ step_linear t x y b b h k)
    ∙ run-sum t bs (step t x b) (step t y b) (length-step t x b h) (length-step t y b k) (bits_tail p)

-- zeros step to zeros
step-none : (t : List ℕ) → 0 < length t → step t (replicate (length t) 0) 0 ≡ replicate (length t) 0
step-none [] l = absurd (omega arith)
step-none (a ∷ t) l =
    let n = length t in
    let lr = length-replicate {A = ℕ} n 0 in
    let more : n + 1 ≡ suc n = omega arith in
    ap (λ (x : List ℕ). add_highest x (raised (replicate n 0) 1)) (scale-zero (a ∷ t))
    ∙ zeros-add (suc n) (raised (replicate n 0) 1) (omega (arith, length-raised (replicate n 0) 1)) (bits-raised (replicate n 0) 1 (bits-zeros n))
    ∙ replicate-append-replicate n 1 0 ∙ ap (λ (m : ℕ). replicate m 0) more

run_none : (t : List ℕ) (k : ℕ) → 0 < length t → run t (replicate (length t) 0) (replicate k 0) ≡ replicate (length t) 0
run_none t zero l = refl
run_none t (suc k) l = ap (λ (g : List ℕ). run t g (replicate k 0)) (step-none t l) ∙ run_none t k l

-- k zeros with start 0 have the check 0
pub zeros_check : (t : List ℕ) (k : ℕ) → 0 < length t → check_of t (replicate (length t) 0) (replicate k 0) ≡ replicate (length t) 0
zeros_check t k l =
    sym (run_check t (replicate (length t) 0) (replicate k 0) l (length-replicate {A = ℕ} (length t) 0) (bits-zeros (length t))) ∙ run_none t k l

module _ (t : List ℕ) (odd : lowest t ≡ 1) where
  -- What a step strikes out comes back as the lowest coefficient. So only zeros step to zeros.
  step-zeros : (g : List ℕ) → length g ≡ length t → Bits g → step t g 0 ≡ replicate (length t) 0 → g ≡ replicate (length t) 0
  step-zeros [] h b e = ap (λ (n : ℕ). replicate n 0) h
  step-zeros (a ∷ g) h b e =
      let m = length g in
      let small = b.at 0 in
      let last : length t - 1 ≡ m + 0 = omega arith in
      let lx = length-scale ((a + 0) % 2) t in
      let lu = length-raised g 1 in
      let low : get_or (raised g 1) (m + 0) 0 ≡ 0 = get_or-append-add g (0 ∷ []) 0 0 in
      let top : get_or t (m + 0) 0 ≡ 1 = ap (λ (i : ℕ). get_or t i 0) (sym last) ∙ odd in
      let scaled : get_or (scale ((a + 0) % 2) t) (m + 0) 0 ≡ a =
      get_or-scale ((a + 0) % 2) t (m + 0) ∙ ap (λ (x : ℕ). (a + 0) % 2 * x) top ∙ omega arith in
      let struck : (get_or (scale ((a + 0) % 2) t) (m + 0) 0 + get_or (raised g 1) (m + 0) 0) % 2 ≡ 0 =
      sym (get_or-add (scale ((a + 0) % 2) t) (raised g 1) (m + 0) (omega arith) (omega arith)) ∙ ap (λ (x : List ℕ). get_or x (m + 0) 0) e ∙ get_or-replicate (length t) (m + 0) 0 0 (omega arith) in
      let first : a ≡ 0 = omega arith in
      let none : (a + 0) % 2 ≡ 0 = omega arith in
      let moved : raised g 1 ≡ replicate (length t) 0 =
      sym (zeros-add (length t) (raised g 1) (omega arith) (bits-raised g 1 (bits_tail b)))
      ∙ ap (λ (x : List ℕ). add_highest x (raised g 1)) (sym (ap (λ (x : ℕ). scale x t) none ∙ scale-zero t)) ∙ e in
      cons first (raised-zeros g m refl (moved ∙ ap (λ (n : ℕ). replicate n 0) (sym h))) ∙ ap (λ (n : ℕ). replicate n 0) h

  run-zeros : (k : ℕ) (g : List ℕ) → length g ≡ length t → Bits g → run t g (replicate k 0) ≡ replicate (length t) 0 → g ≡ replicate (length t) 0
  run-zeros zero g h b e = e
  run-zeros (suc k) g h b e = step-zeros g h b (run-zeros k (step t g 0) (length-step t g 0 h) (bits-step t g 0 b) e)

  -- a payload has one check under two starts only if they are equal
  pub check_start : (payload x y : List ℕ) → 0 < length t → length x ≡ length t → length y ≡ length t → Bits x → Bits y → Bits payload
      → check_of t x payload ≡ check_of t y payload → x ≡ y
  check_start payload x y l h k b d p e =
      let same = run_check t x payload l h b ∙ e ∙ sym (run_check t y payload l k d) in
      let sum : run t (add_highest x y) (replicate (length payload) 0) ≡ replicate (length t) 0 =
      run-sum t payload x y h k p ∙ ap (λ (z : List ℕ). add_highest z (run t y payload)) same ∙ add_self (run t y payload)
      ∙ ap (λ (n : ℕ). replicate n 0) (length_run t y payload k) in
      add_equal x y (omega arith) b d
      (run-zeros (length payload) (add_highest x y) (length-add x y (omega arith) ∙ k) (bits-add x y d) sum ∙ ap (λ (n : ℕ). replicate n 0) (sym k))

  -- k zeros have the check 0 only if the start is 0
  pub check_zeros : (k : ℕ) (start : List ℕ) → 0 < length t → length start ≡ length t → Bits start
      → check_of t start (replicate k 0) ≡ replicate (length t) 0 → start ≡ replicate (length t) 0
  check_zeros k start l h b e = run-zeros k start h b (run_check t start (replicate k 0) l h b ∙ e)
