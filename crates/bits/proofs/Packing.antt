-- Unpacking undoes packing, which leaves the unused bits zero, and packing undoes unpacking if these are zero.
use mathlib.Core.Path.{◌≡◌, refl, sym, ap, ap₂, ◌∙◌}
use mathlib.Core.Bool.{Bool, true, false}
use mathlib.Core.List.{List}
use Prim.Native.Nat.{ℕ, ◌+◌, ◌-◌, ◌*◌, ◌/◌, ◌%◌, ◌^◌, ◌≤◌, ◌<◌}
use native.Mathlib.Nat.{zero-mod, mul-mod_left}
use native.Mathlib.Omega.{arith}
use borrow.Author.Tests.{ltb-true, ltb-false}
use lib.Dec.{ltb}
use lib.ListN.{length, get_or, get_or-eq_default}
use Rattle.laws.specs.Table.{table}
use Rattle.laws.proofs.Indices.{lt_cases}
use Rattle.laws.proofs.Table.{length-table, get_or-table, table_ext, table-get_or}
use Rattle.bits.specs.Bit.{bit, number}
use Rattle.bits.specs.Claims.{Bits}
use Rattle.bits.specs.Packing.{bytes_for, packed_byte, packed, unpacked, unused_bits}
use Rattle.bits.proofs.Bitwise.{bit-mod, bit-zero}
use Rattle.bits.proofs.Number.{bit-number, number_bit, number_ext, number-zeros}

pub length-packed : (bits : List ℕ) → length (packed bits) ≡ bytes_for (length bits)
unfolding packed
length-packed bits = length-table (packed_byte bits) (bytes_for (length bits))

pub length-unpacked : (bytes : List ℕ) (k : ℕ) → length (unpacked bytes k) ≡ k
unfolding unpacked
length-unpacked bytes k = length-table _ k

-- what was packed comes out
pub unpacked-packed : (bits : List ℕ) → Bits bits → unpacked (packed bits) (length bits) ≡ bits
unfolding unpacked packed
unpacked-packed bits b =
    table_ext _ (λ i. get_or bits i 0) (length bits) each ∙ table-get_or bits 0
  where
    each : (i : ℕ) → i < length bits → bit (get_or (table (packed_byte bits) (bytes_for (length bits))) (i / 8) 0) (7 - i % 8) ≡ get_or bits i 0
    each i l =
        let z : 7 - i % 8 ≡ 8 - (i % 8 + 1) = omega arith in
        let e : 8 * (i / 8) + i % 8 ≡ i = omega arith in
        ap₂ bit (get_or-table (packed_byte bits) (bytes_for (length bits)) (i / 8) 0 (omega arith)) z
        ∙ bit-number (λ k. get_or bits (8 * (i / 8) + k) 0) 8 (i % 8) (λ k. b.at (8 * (i / 8) + k)) (omega arith)
        ∙ ap (λ (k : ℕ). get_or bits k 0) e

-- the bits that packing leaves unused are zero
pub unused_packed : (bits : List ℕ) → unused_bits (packed bits) (length bits) ≡ 0
unfolding packed
unused_packed bits =
    let low : ℕ → ℕ = λ x. x % 2 ^ (8 - length bits % 8) in
    lt_cases (length bits / 8) (bytes_for (length bits))
    (λ l. ap low (get_or-table (packed_byte bits) (bytes_for (length bits)) (length bits / 8) 0 l ∙ last) ∙ mul-mod_left _ (2 ^ (8 - length bits % 8)))
    (λ l. ap low (get_or-eq_default (packed bits) 0 (omega (arith, length-packed bits))) ∙ zero-mod (2 ^ (8 - length bits % 8)))
  where
    -- bit b of the last byte
    at : ℕ → ℕ
    at b = get_or bits (8 * (length bits / 8) + b) 0

    last : number at 8 ≡ number at (length bits % 8) * 2 ^ (8 - length bits % 8)
    last =
        let whole : 8 ≡ length bits % 8 + (8 - length bits % 8) = omega arith in
        ap (number at) whole ∙ number-zeros at (length bits % 8) (8 - length bits % 8) (λ b l. get_or-eq_default bits 0 (omega arith))

-- bytes whose unused bits are zero are what their bits pack to
module _ (bytes : List ℕ) (k : ℕ) (small : (m : ℕ) → get_or bytes m 0 < 256) (len : length bytes ≡ bytes_for k) (clear : unused_bits bytes k ≡ 0) where
  -- bit b of byte m, if it is one of the k bits and if it is not
  bit-back : (m b : ℕ) → m < bytes_for k → b < 8 → (t : Bool) → ltb (8 * m + b) k ≡ t → get_or (unpacked bytes k) (8 * m + b) 0 ≡ bit (get_or bytes m 0) (8 - (b + 1))
  unfolding unpacked
  bit-back m b l u true e =
      let q : (8 * m + b) / 8 ≡ m = omega arith in
      let r : 7 - (8 * m + b) % 8 ≡ 8 - (b + 1) = omega arith in
      get_or-table _ k (8 * m + b) 0 (ltb-true (8 * m + b) k e) ∙ ap₂ (λ (x y : ℕ). bit (get_or bytes x 0) y) q r
  bit-back m b l u false e =
      let past : k ≤ 8 * m + b = ltb-false (8 * m + b) k e in
      let q : m ≡ k / 8 = omega arith in
      get_or-eq_default (unpacked bytes k) 0 (omega (arith, length-unpacked bytes k))
      ∙ sym (bit-zero (8 - (b + 1))) ∙ ap (λ (x : ℕ). bit x (8 - (b + 1))) (sym clear)
      ∙ bit-mod (get_or bytes (k / 8) 0) (8 - (b + 1)) (8 - k % 8) (omega arith)
      ∙ ap (λ (x : ℕ). bit (get_or bytes x 0) (8 - (b + 1))) (sym q)

  byte_back : (m : ℕ) → m < bytes_for k → packed_byte (unpacked bytes k) m ≡ get_or bytes m 0
  byte_back m l =
      number_ext _ _ 8 (λ b u. bit-back m b l u (ltb (8 * m + b) k) refl) ∙ number_bit 8 (get_or bytes m 0) (small m)

  pub packed-unpacked : packed (unpacked bytes k) ≡ bytes
  unfolding packed
  packed-unpacked =
      ap (λ (n : ℕ). table (packed_byte (unpacked bytes k)) (bytes_for n)) (length-unpacked bytes k)
      ∙ table_ext _ _ (bytes_for k) byte_back ∙ ap (table (λ m. get_or bytes m 0)) (sym len) ∙ table-get_or bytes 0
