-- The polar transform: its recursive form, that it is linear, and that it undoes itself.
use mathlib.Core.Path.{◌≡◌, refl, sym, ap, ap₂, ◌∙◌}
use mathlib.Core.Bool.{Bool, true, false, ◌&&◌, cond}
use mathlib.Core.List.{List, [], ◌∷◌, ◌++◌}
use Prim.Native.Nat.{ℕ, zero, suc, ◌+◌, ◌%◌, ◌^◌, ◌<◌}
use native.Mathlib.Nat.{two-pow-succ}
use native.Mathlib.Omega.{arith}
use lib.Dec.{leb}
use lib.ListN.{length, take, drop, get_or, length-drop, take-append-drop}
use lib.Seq.{get_or-take, get_or-drop, take_at, drop_at, length-take-le}
use Rattle.laws.specs.Table.{table}
use Rattle.laws.proofs.Table.{length-table, get_or-table, table_ext, table-append}
use Rattle.bits.specs.Claims.{Bits}
use Rattle.bits.proofs.Lists.{bits-table, bits-take, bits-drop}
use Rattle.transform.specs.Transform.{covers, parity, code_bit, transformed, xors}
use Rattle.transform.proofs.Covers.{Above, above_zero, above_one, covers-suc}
use Rattle.transform.proofs.Parity.{parity_lt, parity_ext, parity-zeros, parity-add, parity-xor}
use Rattle.transform.proofs.Xors.{length-xors, get_or-xors, xors-back}

pub length-transformed : (n : ℕ) (u : List ℕ) → length (transformed n u) ≡ 2 ^ n
unfolding transformed
length-transformed n u = length-table (code_bit n u) (2 ^ n)

pub bits-transformed : (n : ℕ) (u : List ℕ) → Bits (transformed n u)
unfolding transformed
bits-transformed n u = bits-table (code_bit n u) (2 ^ n) (λ j. parity_lt _ (2 ^ n))

get_or-transformed : (n : ℕ) (u : List ℕ) (j : ℕ) → j < 2 ^ n → get_or (transformed n u) j 0 ≡ code_bit n u j
unfolding transformed
get_or-transformed n u j l = get_or-table (code_bit n u) (2 ^ n) j 0 l

-- ---- the recursive form

module _ (n : ℕ) (u : List ℕ) where
  abbrev h : ℕ
  h = 2 ^ n

  -- x at an index j' that has the bit c above the n low bits of j, by the halves of u
  code-suc : {c j j' : ℕ} → Above n c j j' → code_bit (suc n) u j' ≡ (parity (λ i. cond (leb c 0 && covers n i j) (get_or (take h u) i 0) 0) h + parity (λ i. cond (leb c 1 && covers n i j) (get_or (drop h u) i 0) 0) h) % 2
  code-suc a =
      ap (parity _) (two-pow-succ n) ∙ parity-add _ h h
      ∙ ap₂ (λ (x y : ℕ). (x + y) % 2)
      (parity_ext _ _ h (λ i l. ap₂ (λ (t : Bool) (x : ℕ). cond t x 0) (covers-suc (above_zero n i l) a) (sym (get_or-take h u i 0 l))))
      (parity_ext _ _ h (λ i l. ap₂ (λ (t : Bool) (x : ℕ). cond t x 0) (covers-suc (above_one n i l) a) (sym (get_or-drop h u i 0))))

  code-left : (j : ℕ) → j < h → code_bit (suc n) u j ≡ (code_bit n (take h u) j + code_bit n (drop h u) j) % 2
  code-left j l = code-suc (above_zero n j l)

  code-right : (j : ℕ) → j < h → code_bit (suc n) u (h + j) ≡ code_bit n (drop h u) j
  code-right j l =
      code-suc (above_one n j l) ∙ omega (arith, parity-zeros h, parity_lt (λ i. cond (covers n i j) (get_or (drop h u) i 0) 0) h)

  -- left half xor right half, then the right half
  pub transformed-suc : transformed (suc n) u ≡ xors h (transformed n (take h u)) (transformed n (drop h u)) ++ transformed n (drop h u)
  unfolding transformed xors
  transformed-suc =
      ap (table (code_bit (suc n) u)) (two-pow-succ n) ∙ table-append (code_bit (suc n) u) h h
      ∙ ap₂ ◌++◌ (table_ext _ _ h left) (table_ext _ _ h code-right)
    where
      left : (j : ℕ) → j < h → code_bit (suc n) u j ≡ (get_or (transformed n (take h u)) j 0 + get_or (transformed n (drop h u)) j 0) % 2
      left j l =
          code-left j l ∙ ap₂ (λ (x y : ℕ). (x + y) % 2) (sym (get_or-transformed n (take h u) j l)) (sym (get_or-transformed n (drop h u) j l))

-- a single bit is left as it is
pub transformed-zero : (u : List ℕ) → length u ≡ 1 → Bits u → transformed 0 u ≡ u
unfolding transformed table parity covers
transformed-zero [] len p = absurd (omega arith)
transformed-zero (x ∷ []) len p = ap (λ (b : ℕ). b ∷ []) (omega (arith, p.at 0))
transformed-zero (x ∷ y ∷ u) len p = absurd (omega arith)

-- ---- it is linear

cond_xor : (t : Bool) (x y : ℕ) → cond t ((x + y) % 2) 0 ≡ (cond t x 0 + cond t y 0) % 2
cond_xor true x y = refl
cond_xor false x y = refl

pub transformed-xors : (n : ℕ) (a b : List ℕ) → transformed n (xors (2 ^ n) a b) ≡ xors (2 ^ n) (transformed n a) (transformed n b)
unfolding transformed xors
transformed-xors n a b = table_ext _ _ (2 ^ n) each
  where
    each : (j : ℕ) → j < 2 ^ n → code_bit n (xors (2 ^ n) a b) j ≡ (get_or (transformed n a) j 0 + get_or (transformed n b) j 0) % 2
    each j l =
        parity_ext _ _ (2 ^ n) (λ i k. ap (λ (x : ℕ). cond (covers n i j) x 0) (get_or-xors (2 ^ n) a b i k) ∙ cond_xor (covers n i j) (get_or a i 0) (get_or b i 0))
        ∙ parity-xor (λ i. cond (covers n i j) (get_or a i 0) 0) (λ i. cond (covers n i j) (get_or b i 0) 0) (2 ^ n)
        ∙ ap₂ (λ (x y : ℕ). (x + y) % 2) (sym (get_or-transformed n a j l)) (sym (get_or-transformed n b j l))

-- ---- it undoes itself

pub transformed-twice : (n : ℕ) (u : List ℕ) → length u ≡ 2 ^ n → Bits u → transformed n (transformed n u) ≡ u
transformed-twice zero u len p = ap (transformed 0) (transformed-zero u len p) ∙ transformed-zero u len p
transformed-twice (suc n) u len p =
    let h : ℕ = 2 ^ n in
    let two : 2 ^ suc n ≡ h + h = two-pow-succ n in
    let l : List ℕ = take h u in
    let r : List ℕ = drop h u in
    let X : List ℕ = xors h (transformed n l) (transformed n r) in
    let len-l : length l ≡ h = length-take-le h u (omega arith) in
    let len-r : length r ≡ h = length-drop h u ∙ omega arith in
    let twice-l : transformed n (transformed n l) ≡ l = transformed-twice n l len-l (bits-take h u p) in
    let twice-r : transformed n (transformed n r) ≡ r = transformed-twice n r len-r (bits-drop h u p) in
    let front : transformed n X ≡ xors h l r = transformed-xors n (transformed n l) (transformed n r) ∙ ap₂ (xors h) twice-l twice-r in
    ap (transformed (suc n)) (transformed-suc n u) ∙ transformed-suc n (X ++ transformed n r)
    ∙ ap₂ (λ (a b : List ℕ). xors h (transformed n a) (transformed n b) ++ transformed n b)
    (take_at X (transformed n r) h (length-xors h (transformed n l) (transformed n r)))
    (drop_at X (transformed n r) h (length-xors h (transformed n l) (transformed n r)))
    ∙ ap₂ (λ (a b : List ℕ). xors h a b ++ b) front twice-r
    ∙ ap (λ (a : List ℕ). a ++ r) (xors-back h l r len-l (bits-take h u p))
    ∙ take-append-drop h u
