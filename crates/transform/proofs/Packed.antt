-- The recursive form on packed bits: each byte transformed, then the bytes folded, is the transform of their bits.
use mathlib.Core.Path.{◌≡◌, sym, ap, ap₂, ◌∙◌}
use mathlib.Core.List.{List, [], ◌∷◌, ◌++◌}
use Prim.Native.Nat.{ℕ, zero, suc, ◌+◌, ◌-◌, ◌*◌, ◌/◌, ◌%◌, ◌^◌, ◌<◌}
use native.Mathlib.Nat.{two-pow-succ, zero-mod}
use native.Mathlib.Omega.{arith}
use lib.Bits.{xor_lt}
use lib.ListN.{length, get_or, take, drop, get_or-append, get_or-eq_default}
use lib.Seq.{take_at, drop_at, get_or-append-add}
use Rattle.laws.specs.Table.{table}
use Rattle.laws.proofs.Each.{Each, each_append, each_take, each-drop, each-table}
use Rattle.laws.proofs.Table.{length-table, get_or-table, table_ext, table-append}
use Rattle.bits.specs.Bit.{bit, bits_of}
use Rattle.bits.specs.Packing.{packed, unpacked}
use Rattle.bits.proofs.Bitwise.{bit-xor}
use Rattle.bits.proofs.Number.{number_lt, bit-number}
use Rattle.bits.proofs.BitsOf.{bits_of-table}
use Rattle.bits.proofs.Packing.{packed-unpacked}
use Rattle.transform.specs.Transform.{code_bit, transformed, xors}
use Rattle.transform.specs.Clauses.{transformed_byte, folded, xor_bytes}
use Rattle.transform.proofs.Folded.{length-xor_bytes, length-folded, folded-suc}
use Rattle.transform.proofs.Parity.{parity_lt}
use Rattle.transform.proofs.Transformed.{transformed-suc}

-- the bits of the bytes f 0, f 1, …, highest first
abbrev bit_at : (ℕ → ℕ) → ℕ → ℕ
bit_at f i = bit (f (i / 8)) (7 - i % 8)

-- from byte h on
bit_at-past : (f : ℕ → ℕ) (h i : ℕ) → bit_at f (8 * h + i) ≡ bit_at (λ m. f (h + m)) i
bit_at-past f h i =
    let q : (8 * h + i) / 8 ≡ h + i / 8 = omega arith in
    let r : (8 * h + i) % 8 ≡ i % 8 = omega arith in
    ap₂ (λ (x y : ℕ). bit (f x) (7 - y)) q r

bits-halves : (f : ℕ → ℕ) (h : ℕ) → table (bit_at f) (8 * h + 8 * h) ≡ table (bit_at f) (8 * h) ++ table (bit_at (λ m. f (h + m))) (8 * h)
bits-halves f h =
    table-append (bit_at f) (8 * h) (8 * h)
    ∙ ap (λ (x : List ℕ). table (bit_at f) (8 * h) ++ x) (table_ext _ _ (8 * h) (λ i l. bit_at-past f h i))

-- of two lists of bytes
unpacked-append : (a b : List ℕ) (h : ℕ) → length a ≡ h → unpacked (a ++ b) (8 * h + 8 * h) ≡ unpacked a (8 * h) ++ unpacked b (8 * h)
unfolding unpacked
unpacked-append a b h e =
    bits-halves (λ m. get_or (a ++ b) m 0) h
    ∙ ap₂ (λ (x y : List ℕ). x ++ y)
    (table_ext _ _ (8 * h) (λ i l. ap (λ (x : ℕ). bit x (7 - i % 8)) (get_or-append a b 0 (i / 8) (omega arith))))
    (table_ext _ _ (8 * h) (λ i l. ap (λ (x : ℕ). bit x (7 - i % 8)) (ap (λ (k : ℕ). get_or (a ++ b) (k + i / 8) 0) (sym e) ∙ get_or-append-add a b (i / 8) 0)))

unpacked-xor : (h : ℕ) (a b : List ℕ) → unpacked (xor_bytes h a b) (8 * h) ≡ xors (8 * h) (unpacked a (8 * h)) (unpacked b (8 * h))
unfolding unpacked xor_bytes xors
unpacked-xor h a b = table_ext _ _ (8 * h) (λ i l.
    ap (λ (x : ℕ). bit x (7 - i % 8)) (get_or-table _ h (i / 8) 0 (omega arith))
    ∙ bit-xor (get_or a (i / 8) 0) (get_or b (i / 8) 0) (7 - i % 8)
    ∙ ap₂ (λ (x y : ℕ). (x + y) % 2) (sym (get_or-table _ (8 * h) i 0 l)) (sym (get_or-table _ (8 * h) i 0 l)))

-- one byte
unpacked_byte : (x : ℕ) → unpacked (transformed_byte x ∷ []) 8 ≡ transformed 3 (bits_of 8 x)
unfolding unpacked transformed
unpacked_byte x = table_ext _ _ 8 (λ i l.
    let q : i / 8 ≡ 0 = omega arith in
    let z : 7 - i % 8 ≡ 8 - (i + 1) = omega arith in
    ap₂ (λ (k y : ℕ). bit (get_or (transformed_byte x ∷ []) k 0) y) q z
    ∙ bit-number (code_bit 3 (bits_of 8 x)) 8 i (λ k. parity_lt _ (2 ^ 3)) l)

pub times_eight : (n : ℕ) → 2 ^ (n + 3) ≡ 8 * 2 ^ n
times_eight n =
    let e : n + 3 ≡ suc (suc (suc n)) = omega arith in
    omega (arith, ap (λ (k : ℕ). 2 ^ k) e, two-pow-succ n, two-pow-succ (suc n), two-pow-succ (suc (suc n)))

unpacked-folded : (n : ℕ) (f : ℕ → ℕ) → unpacked (folded n (table (λ m. transformed_byte (f m)) (2 ^ n))) (8 * 2 ^ n) ≡ transformed (n + 3) (table (bit_at f) (8 * 2 ^ n))
unfolding folded table
unpacked-folded zero f =
    unpacked_byte (f 0)
    ∙ ap (transformed 3)
    (sym (bits_of-table 8 (f 0)) ∙ table_ext _ _ 8 (λ i l.
    let q : i / 8 ≡ 0 = omega arith in
    let z : 8 - (i + 1) ≡ 7 - i % 8 = omega arith in
    ap₂ (λ (k y : ℕ). bit (f k) y) (sym q) z))
unpacked-folded (suc n) f =
    let h : ℕ = 2 ^ n in
    let byte : ℕ → ℕ = λ m. transformed_byte (f m) in
    let l : List ℕ = folded n (table byte h) in
    let r : List ℕ = folded n (table (λ m. byte (h + m)) h) in
    let u : List ℕ = table (bit_at f) (8 * h) in
    let v : List ℕ = table (bit_at (λ m. f (h + m))) (8 * h) in
    let double : 2 ^ suc n ≡ h + h = omega (arith, two-pow-succ n) in
    let eight : 8 * 2 ^ suc n ≡ 8 * h + 8 * h = omega (arith, two-pow-succ n) in
    let sides : table byte (2 ^ suc n) ≡ table byte h ++ table (λ m. byte (h + m)) h = ap (table byte) double ∙ table-append byte h h in
    let size : 2 ^ (n + 3) ≡ 8 * h = times_eight n in
    let next : suc n + 3 ≡ suc (n + 3) = omega arith in
    let folds : folded (suc n) (table byte (2 ^ suc n)) ≡ xor_bytes h l r ++ r =
    folded-suc n (table byte (2 ^ suc n))
    ∙ ap₂ (λ (a b : List ℕ). xor_bytes h (folded n a) (folded n b) ++ folded n b)
    (ap (take h) sides ∙ take_at (table byte h) (table (λ m. byte (h + m)) h) h (length-table byte h))
    (ap (drop h) sides ∙ drop_at (table byte h) (table (λ m. byte (h + m)) h) h (length-table byte h)) in
    let bits : table (bit_at f) (8 * 2 ^ suc n) ≡ u ++ v = ap (table (bit_at f)) eight ∙ bits-halves f h in
    ap₂ unpacked folds eight
    ∙ unpacked-append (xor_bytes h l r) r h (length-xor_bytes h l r)
    ∙ ap (λ (x : List ℕ). x ++ unpacked r (8 * h)) (unpacked-xor h l r)
    ∙ ap₂ (λ (a b : List ℕ). xors (8 * h) a b ++ b) (unpacked-folded n f) (unpacked-folded n (λ m. f (h + m)))
    ∙ ap₂ (λ (a b : List ℕ). xors (8 * h) (transformed (n + 3) a) (transformed (n + 3) b) ++ transformed (n + 3) b)
    (sym (take_at u v (8 * h) (length-table _ (8 * h)))) (sym (drop_at u v (8 * h) (length-table _ (8 * h))))
    ∙ ap (λ (k : ℕ). xors k (transformed (n + 3) (take k (u ++ v))) (transformed (n + 3) (drop k (u ++ v))) ++ transformed (n + 3) (drop k (u ++ v))) (sym size)
    ∙ sym (transformed-suc (n + 3) (u ++ v))
    ∙ ap₂ transformed (sym next) (sym bits)

-- ---- packed again

abbrev Byte : ℕ → Type 0
Byte x = x < 256

abbrev Small : List ℕ → Type 0
Small = Each Byte 0

small-folded : (n : ℕ) (u : List ℕ) → Small u → Small (folded n u)
unfolding folded xor_bytes
small-folded zero u p = p
small-folded (suc n) u p =
    let h : ℕ = 2 ^ n in
    let a : List ℕ = folded n (take h u) in
    let b : List ℕ = folded n (drop h u) in
    let l = small-folded n (take h u) (each_take Byte 0 (omega arith) h u p) in
    let r = small-folded n (drop h u) (each-drop Byte 0 h u p) in
    each_append Byte 0 (xor_bytes h a b) b (each-table Byte 0 (omega arith) _ h (λ j. xor_lt 8 _ _ (l j) (r j))) r

-- bytes transformed, then folded
pub folded-packed : (n : ℕ) (bytes : List ℕ) → folded n (table (λ m. transformed_byte (get_or bytes m 0)) (2 ^ n)) ≡ packed (transformed (n + 3) (unpacked bytes (8 * 2 ^ n)))
unfolding unpacked
folded-packed n bytes =
    let h : ℕ = 2 ^ n in
    let u : List ℕ = table (λ m. transformed_byte (get_or bytes m 0)) h in
    let long : length (folded n u) ≡ h = length-folded n u (length-table _ h) in
    let small = small-folded n u (each-table Byte 0 (omega arith) _ h (λ m. number_lt _ 8 (λ i. parity_lt _ (2 ^ 3)))) in
    let past : get_or (folded n u) (8 * h / 8) 0 ≡ 0 = get_or-eq_default (folded n u) 0 (omega (arith, long)) in
    let clear = ap (λ (x : ℕ). x % 2 ^ (8 - 8 * h % 8)) past ∙ zero-mod (2 ^ (8 - 8 * h % 8)) in
    sym (packed-unpacked (folded n u) (8 * h) small (omega (arith, long)) clear)
    ∙ ap packed (unpacked-folded n (λ m. get_or bytes m 0))
