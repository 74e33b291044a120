-- A number's decimal digits: one digit more for each division by ten; they can be read back, and the first is not 0 unless the number is.
use mathlib.Core.Path.{◌≡◌, refl, sym, ap, ◌∙◌, subst}
use mathlib.Core.Bool.{Bool, true, false, cond}
use mathlib.Core.List.{List, [], ◌∷◌, ◌++◌}
use Prim.Native.Nat.{ℕ, zero, suc, ◌+◌, ◌-◌, ◌*◌, ◌/◌, ◌%◌, ◌^◌, ◌≤◌, ◌<◌}
use native.Mathlib.Nat.{pow-suc}
use native.Mathlib.Omega.{arith}
use borrow.Author.Tests.{ltb-true, ltb-false, lt-ltb, le-ltb}
use lib.Dec.{ltb}
use lib.ListN.{length, get_or, length-append}
use Rattle.receive_lines.specs.Line.{digit, decimal_in, decimal}
use Rattle.receive_lines.specs.Claims.{read_from}

-- one place more
decimal_in_lem : (places n : ℕ) (t : Bool) → ltb n 10 ≡ t → decimal_in (suc places) n ≡ cond t (digit n ∷ []) (decimal_in places (n / 10) ++ (digit (n % 10) ∷ []))
unfolding decimal_in
decimal_in_lem places n t e = ap (λ (b : Bool). cond b (digit n ∷ []) (decimal_in places (n / 10) ++ (digit (n % 10) ∷ []))) e

-- more places than suffice change nothing
places_enough : (p q n : ℕ) → n < p → n < q → decimal_in p n ≡ decimal_in q n
places_enough zero q n h k = absurd (omega arith)
places_enough (suc p) zero n h k = absurd (omega arith)
places_enough (suc p) (suc q) n h k = go (ltb n 10) refl (λ l m. places_enough p q (n / 10) l m)
  where
    go : (t : Bool) → ltb n 10 ≡ t → (n / 10 < p → n / 10 < q → decimal_in p (n / 10) ≡ decimal_in q (n / 10)) → decimal_in (suc p) n ≡ decimal_in (suc q) n
    go true e rest = decimal_in_lem p n true e ∙ sym (decimal_in_lem q n true e)
    go false e rest =
        let big = ltb-false n 10 e in
        decimal_in_lem p n false e ∙ ap (λ (ds : List ℕ). ds ++ (digit (n % 10) ∷ [])) (rest (omega arith) (omega arith)) ∙ sym (decimal_in_lem q n false e)

pub decimal-small : (n : ℕ) → n < 10 → decimal n ≡ digit n ∷ []
decimal-small n h = decimal_in_lem n n true (lt-ltb n 10 h)

pub decimal-more : (n : ℕ) → 10 ≤ n → decimal n ≡ decimal (n / 10) ++ (digit (n % 10) ∷ [])
decimal-more n h =
    decimal_in_lem n n false (le-ltb n 10 h)
    ∙ ap (λ (ds : List ℕ). ds ++ (digit (n % 10) ∷ [])) (places_enough n (suc (n / 10)) (n / 10) (omega arith) (omega arith))

pub length-small : (n : ℕ) → n < 10 → length (decimal n) ≡ 1
length-small n h = ap length (decimal-small n h)

pub length_more : (n : ℕ) → 10 ≤ n → length (decimal n) ≡ length (decimal (n / 10)) + 1
length_more n h = ap length (decimal-more n h) ∙ length-append (decimal (n / 10)) (digit (n % 10) ∷ [])

-- what holds of one digit, and of one more, holds of all
module _ (P : ℕ → List ℕ → Type 0)
    (one : (n : ℕ) → n < 10 → P n (digit n ∷ []))
    (more : (n : ℕ) (ds : List ℕ) → 10 ≤ n → P (n / 10) ds → P n (ds ++ (digit (n % 10) ∷ []))) where
  decimal-below : (bound n : ℕ) → n < bound → P n (decimal n)
  decimal-below zero n h = absurd (omega arith)
  decimal-below (suc bound) n h = go (ltb n 10) refl (λ l. decimal-below bound (n / 10) l)
    where
      go : (t : Bool) → ltb n 10 ≡ t → (n / 10 < bound → P (n / 10) (decimal (n / 10))) → P n (decimal n)
      go true e rest = let small = ltb-true n 10 e in subst (P n) (sym (decimal-small n small)) (one n small)
      go false e rest =
          let big = ltb-false n 10 e in
          subst (P n) (sym (decimal-more n big)) (more n (decimal (n / 10)) big (rest (omega arith)))

  decimal_ind : (n : ℕ) → P n (decimal n)
  decimal_ind n = decimal-below (suc n) n (omega arith)

-- a number below 10^(p + 1) has at most p + 1 digits
pub length-decimal : (n p : ℕ) → n < 10 ^ suc p → length (decimal n) ≤ suc p
length-decimal = decimal_ind (λ n ds. (p : ℕ) → n < 10 ^ suc p → length ds ≤ suc p) (λ n h p l. omega arith) more
  where
    more : (n : ℕ) (ds : List ℕ) → 10 ≤ n → ((p : ℕ) → n / 10 < 10 ^ suc p → length ds ≤ suc p) → (p : ℕ) → n < 10 ^ suc p → length (ds ++ (digit (n % 10) ∷ [])) ≤ suc p
    more n ds h f zero l = absurd (omega (arith, pow-suc 10 0))
    more n ds h f (suc p) l = omega (arith, length-append ds (digit (n % 10) ∷ []), f p (omega (arith, pow-suc 10 (suc p))))

read_append : (x : ℕ) (ds es : List ℕ) → read_from x (ds ++ es) ≡ read_from (read_from x ds) es
read_append x [] es = refl
read_append x (d ∷ ds) es = read_append (x * 10 + (d - digit 0)) ds es

-- the digits, read back, are the number
pub decimal_reads : (n : ℕ) → read_from 0 (decimal n) ≡ n
decimal_reads = decimal_ind (λ n ds. read_from 0 ds ≡ n) (λ n h. omega arith) more
  where
    more : (n : ℕ) (ds : List ℕ) → 10 ≤ n → read_from 0 ds ≡ n / 10 → read_from 0 (ds ++ (digit (n % 10) ∷ [])) ≡ n
    more n ds h e = read_append 0 ds (digit (n % 10) ∷ []) ∙ ap (λ (x : ℕ). x * 10 + (digit (n % 10) - digit 0)) e ∙ omega arith

-- the first digit is not 0 unless the number is
pub decimal_leads : (n : ℕ) → get_or (decimal n) 0 0 ≡ digit 0 → n ≡ 0
decimal_leads n = (decimal_ind (λ n ds. (1 ≤ length ds) × (get_or ds 0 0 ≡ digit 0 → n ≡ 0)) (λ n h. (omega arith, λ e. omega arith)) more n).1
  where
    more : (n : ℕ) (ds : List ℕ) → 10 ≤ n → (1 ≤ length ds) × (get_or ds 0 0 ≡ digit 0 → n / 10 ≡ 0) → (1 ≤ length (ds ++ (digit (n % 10) ∷ []))) × (get_or (ds ++ (digit (n % 10) ∷ [])) 0 0 ≡ digit 0 → n ≡ 0)
    more n [] h p = absurd (omega (arith, p.0))
    more n (d ∷ ds) h p = (omega arith, λ e. omega (arith, p.1 e))
