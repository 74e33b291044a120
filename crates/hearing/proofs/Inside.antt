-- Hearings by N values in −31..31, and what an add makes of them.
use mathlib.Core.Path.{◌≡◌, refl, sym, ap, ap₂, ◌∙◌, subst}
use mathlib.Core.Bool.{Bool, true, ◌&&◌, cond}
use mathlib.Core.List.{List, ◌∷◌, map}
use Prim.Native.Nat.{ℕ, zero, suc, ◌+◌, ◌-◌, ◌^◌, ◌≤◌, ◌<◌, min}
use native.Mathlib.Omega.{arith}
use borrow.Author.Tests.{le-leb, le-ltb, eq-eqb, ne_eqb}
use lib.IntN.{ℤ, pos, negsuc, nat_abs, ◌+ℤ◌}
use lib.ListN.{length, get_or, drop, replicate, length-replicate, replicate-append-replicate, get_or-map, get_or-append}
use lib.Seq.{take_at, drop_at}
use Rattle.laws.specs.Table.{table}
use Rattle.laws.proofs.Each.{Each, each-table}
use Rattle.laws.proofs.First.{first-is}
use Rattle.laws.proofs.Signed.{abs_neg}
use Rattle.laws.proofs.Table.{length-table, table_ext, table-replicate}
use Rattle.arrays.specs.Sizes.{largest_n}
use Rattle.arrays.specs.Padded.{padded, all_zero}
use Rattle.arrays.proofs.Zeros.{drop-replicate, are_zeros}
use Rattle.code.specs.declared.Code.{Code}
use Rattle.code.specs.Code.{code_length}
use Rattle.channel.specs.Channel.{channel_value, channel_values, clip, first_outside}
use Rattle.channel.proofs.Bytes.{channel_byte}
use Rattle.hearing.specs.Hearing.{hearing_of, combined, fresh, clipped_sums, added_to, is_hearing}
use Rattle.hearing.specs.Clauses.{clipped_sum, zero_from}

-- ---- values in −31..31

abbrev Small : ℕ → Type 0
Small b = nat_abs (channel_value b) ≤ 31

pub record Inside (size : ℕ) (v : List ℕ) : Type 0 where
  pub size_is : length v ≡ size
  pub at : (i : ℕ) → Small (get_or v i 0)

pub none-outside : {size : ℕ} {v : List ℕ} → Inside size v → first_outside v ≡ size
none-outside {size} {v} w =
    first-is _ (length v) (length v) (omega arith) (λ k l. le-ltb 31 (nat_abs (channel_value (get_or v k 0))) (w.at k)) (λ l. absurd (omega arith))
    ∙ w.size_is

-- zeros
pub each-zero : (P : ℕ → Type 0) → P 0 → (size : ℕ) → Each P 0 (replicate size 0)
each-zero P p size = subst (Each P 0) (table-replicate 0 size) (each-table P 0 p (λ _. 0) size (λ _. p))

zero-small : Small 0
unfolding channel_value
zero-small = omega arith

pub zeros-inside : (size : ℕ) → Inside size (replicate size 0)
zeros-inside size = record { size_is = length-replicate size 0; at = each-zero Small zero-small size }

-- clipped sums, and what they are in whole numbers
clip-small : (z : ℤ) → nat_abs (clip z) ≤ 31
clip-small (pos n) = omega arith
clip-small (negsuc n) = omega (arith, abs_neg (pos (min 31 (suc n))))

sum-value : (a b : ℕ) → channel_value (clipped_sum a b) ≡ clip (channel_value a +ℤ channel_value b)
sum-value a b = channel_byte (clip (channel_value a +ℤ channel_value b)) (clip-small (channel_value a +ℤ channel_value b))

sum-small : (a b : ℕ) → Small (clipped_sum a b)
sum-small a b = subst (λ (z : ℤ). nat_abs z ≤ 31) (sym (sum-value a b)) (clip-small (channel_value a +ℤ channel_value b))

map-table : (f : ℕ → ℤ) (g : ℕ → ℕ) (n : ℕ) → map f (table g n) ≡ table (λ i. f (g i)) n
unfolding table
map-table f g zero = refl
map-table f g (suc n) = ap (λ (r : List ℤ). f (g 0) ∷ r) (map-table f (λ i. g (suc i)) n)

pub zeros-values : (size : ℕ) → channel_values (replicate size 0) ≡ replicate size (pos 0)
unfolding channel_value
zeros-values size =
    ap channel_values (sym (table-replicate 0 size)) ∙ map-table channel_value (λ _. 0) size ∙ table-replicate (pos 0) size

value-at : (v : List ℕ) (i : ℕ) → channel_value (get_or v i 0) ≡ get_or (channel_values v) i (pos 0)
unfolding channel_value
value-at v i = sym (get_or-map channel_value v i 0)

module _ (size : ℕ) (v channel : List ℕ) where
  abbrev sum-at : ℕ → ℕ
  sum-at i = clipped_sum (get_or v i 0) (get_or channel i 0)

  pub sums-inside : Inside size (clipped_sums size v channel)
  sums-inside = record {
    size_is = length-table sum-at size;
    at = each-table Small 0 zero-small sum-at size (λ i. sum-small (get_or v i 0) (get_or channel i 0));
  }

  pub sums-values : channel_values (clipped_sums size v channel)
      ≡ table (λ i. clip (get_or (channel_values v) i (pos 0) +ℤ get_or (channel_values channel) i (pos 0))) size
  sums-values =
      map-table channel_value sum-at size ∙ table_ext _ _ size (λ i l.
      sum-value (get_or v i 0) (get_or channel i 0) ∙ ap₂ (λ (x y : ℤ). clip (x +ℤ y)) (value-at v i) (value-at channel i))

-- ---- hearings

zeros-padded : {size n : ℕ} → n ≤ size → padded size (replicate n 0) ≡ replicate size 0
zeros-padded {size} {n} l =
    let e : n + (size - length (replicate {A = ℕ} n 0)) ≡ size = omega (arith, length-replicate {A = ℕ} n 0) in
    replicate-append-replicate n _ 0 ∙ ap (λ (k : ℕ). replicate k 0) e

-- a fresh one holds zeros
pub fresh-is : {n : ℕ} → n ≤ 2 ^ largest_n → fresh ≡ hearing_of (replicate n 0) 0
fresh-is l = sym (λ i. record { values = zeros-padded l i; count = 0 })

module _ (c : Code) where
  abbrev N : ℕ
  N = code_length c

  module _ (v : List ℕ) (w : Inside N v) (count : ℕ) where
    abbrev after : List ℕ
    after = replicate (2 ^ largest_n - length v) 0

    pub combined-is : combined c (hearing_of v count) ≡ v
    combined-is = take_at v after N w.size_is

    hearing_if : count ≤ 255 → all_zero (drop (zero_from c count) (padded (2 ^ largest_n) v)) ≡ true → is_hearing c (hearing_of v count) ≡ true
    hearing_if l e =
        ap₂ ◌&&◌ (le-leb count 255 l)
        (ap₂ ◌&&◌ e (eq-eqb (first_outside (combined c (hearing_of v count))) N (ap first_outside combined-is ∙ none-outside w)))

    -- an add to it
    pub added_to_lem : (channel : List ℕ) → added_to c (hearing_of v count) channel ≡ hearing_of (clipped_sums N v channel) (count + 1)
    added_to_lem channel =
        ap (λ (l : List ℕ). hearing_of l (count + 1)) (table_ext _ _ N (λ i l.
        ap (λ (a : ℕ). clipped_sum a (get_or channel i 0)) (get_or-append v after 0 i (omega (arith, w.size_is)))))

  -- zeros with any count, and any values after an add
  pub zeros_hearing : N ≤ 2 ^ largest_n → (count : ℕ) → count ≤ 255 → is_hearing c (hearing_of (replicate N 0) count) ≡ true
  zeros_hearing l count m =
      let from : ℕ = zero_from c count in
      hearing_if (replicate N 0) (zeros-inside N) count m
      (ap (λ (x : List ℕ). all_zero (drop from x)) (zeros-padded l)
      ∙ ap all_zero (drop-replicate from (2 ^ largest_n) 0) ∙ are_zeros (2 ^ largest_n - from))

  pub heard_hearing : (v : List ℕ) → Inside N v → (count : ℕ) → count < 255 → is_hearing c (hearing_of v (count + 1)) ≡ true
  heard_hearing v w count m =
      hearing_if v w (count + 1) (omega arith)
      (ap (λ (t : Bool). all_zero (drop (cond t 0 N) (padded (2 ^ largest_n) v))) (ne_eqb (count + 1) 0 (λ z. omega arith))
      ∙ ap all_zero (drop_at v (after v w count) N w.size_is) ∙ are_zeros (2 ^ largest_n - length v))
