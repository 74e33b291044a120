-- Keys stand in the order of their indices: the least key above that of one place of the order is that of the next place.
use mathlib.Core.Path.{◌≡◌, refl, sym, ap, ◌∙◌, subst}
use mathlib.Core.Bool.{true, cond}
use mathlib.Core.Logic.{⊎_elim}
use mathlib.Core.List.{List}
use Prim.Native.Nat.{ℕ, suc, ◌+◌, ◌-◌, ◌*◌, ◌%◌, ◌<◌, ◌≤◌}
use native.Mathlib.Omega.{arith}
use lib.Dec.{eqb}
use lib.IntN.{ℤ, pos, negsuc, nat_abs}
use lib.ListN.{length, get_or, take}
use lib.Seq.{get_or-take}
use Rattle.laws.specs.Table.{table}
use Rattle.laws.proofs.Table.{length-table, get_or-table}
use Rattle.laws.proofs.Segment.{segment-splice}
use Rattle.laws.proofs.Indices.{lt_cases}
use Rattle.arrays.specs.Claims.{longest}
use Rattle.bits.specs.Mask.{mask_bit}
use Rattle.bits.proofs.Mask.{mask_cases}
use Rattle.values.specs.Claims.{Within}
use Rattle.flip_order.specs.Order.{before}
use Rattle.flip_order.specs.Claims.{ListsInformation}
use Rattle.flip_order.specs.Clauses.{order_in, key_for, key_of, no_key, key_under, keys_of, most_magnitude, KeysPre, least_above, Keyed}
use Rattle.flip_order.proofs.Before.{before-first}
use Rattle.flip_order.proofs.Order.{ordered-information}
use Rattle.flip_order.proofs.Least.{From, from_none, from_key, least_above_lem}

-- ---- one key

-- an index that stands before another has the lesser key
key_less : (leaves : List ℤ) (i j : ℕ) → i < longest → before leaves i j ≡ true → key_of leaves i < key_of leaves j
key_less leaves i j l h = ⊎_elim (λ m. omega arith) (λ p. omega arith) (before-first leaves i j h)

module _ (mask : List ℕ) (value : ℤ) (i : ℕ) where
  pub key-under : mask_bit mask i ≡ 1 → key_under mask value i ≡ key_for value i
  key-under e = ap (λ (b : ℕ). cond (eqb b 1) (key_for value i) no_key) e

  none-under : mask_bit mask i ≡ 0 → key_under mask value i ≡ no_key
  none-under e = ap (λ (b : ℕ). cond (eqb b 1) (key_for value i) no_key) e

  -- only information indices have keys
  has_key : key_under mask value i < no_key → mask_bit mask i ≡ 1
  has_key l = ⊎_elim (λ e. absurd (omega (arith, none-under e))) (λ e. e) (mask_cases mask i)

-- ---- the keys that `make_keys` makes

pub keys_made : {mask : List ℕ} {n : ℕ} {values leaves keys : List ℤ} → KeysPre mask values → 8 * length mask ≡ n → take n values ≡ leaves → keys ≡ keys_of mask values → Keyed mask n leaves keys
keys_made {mask} {n} {values} {leaves} {keys} p e own made = record {
  fits = omega (arith, p.fits);
  small = subst (Within most_magnitude) (ap (λ (m : ℕ). take m values) e ∙ own) p.small;
  at = λ i l. key_at_lem i (omega arith) ∙ ap (λ (z : ℤ). pos (key_under mask z i)) (leaf i l);
}
  where
    size : ℕ
    size = 8 * length mask

    key : ℕ → ℤ
    key i = pos (key_under mask (get_or values i (pos 0)) i)

    front : take size keys ≡ table key size
    front =
        ap (take size) made
        ∙ segment-splice values 0 (table key size) size (length-table key size) (omega (arith, p.there))

    key_at_lem : (i : ℕ) → i < size → get_or keys i (pos 0) ≡ key i
    key_at_lem i l =
        sym (get_or-take size keys i (pos 0) l) ∙ ap (λ (ks : List ℤ). get_or ks i (pos 0)) front ∙ get_or-table key size i (pos 0) l

    leaf : (i : ℕ) → i < n → get_or values i (pos 0) ≡ get_or leaves i (pos 0)
    leaf i l = sym (get_or-take n values i (pos 0) l) ∙ ap (λ (ls : List ℤ). get_or ls i (pos 0)) own

-- ---- places of the order

-- the key of the place before, or -1 at place 0
pub record LastKey (leaves : List ℤ) (is : List ℕ) (place : ℕ) (key : ℤ) : Type 0 where
  pub none : place ≡ 0 → key ≡ negsuc 0
  pub last : 0 < place → key ≡ pos (key_of leaves (get_or is (place - 1) 0))

pub last_none : {leaves : List ℤ} {is : List ℕ} → LastKey leaves is 0 (negsuc 0)
last_none = record { none = λ e. refl; last = λ l. absurd (omega arith) }

module _ {mask : List ℕ} {n : ℕ} {leaves keys : List ℤ} (k : Keyed mask n leaves keys) where
  abbrev is : List ℕ
  is = order_in mask n leaves

  abbrev key_at : ℕ → ℕ
  key_at place = key_of leaves (get_or is place 0)

  lists : ListsInformation mask n is
  lists = (ordered-information leaves mask n).1

  key-small : (place : ℕ) → place < length is → key_at place < no_key
  key-small place l = omega (arith, k.small.at (get_or is place 0), (lists.each place l).0, k.fits)

  keys_ascend : (a b : ℕ) → a < b → b < length is → key_at a < key_at b
  keys_ascend a b l m =
      key_less leaves (get_or is a 0) (get_or is b 0) (omega (arith, (lists.each a (omega arith)).0, k.fits)) ((ordered-information leaves mask n).0.at a b l m)

  keys_rise : (a b : ℕ) → a ≤ b → b < length is → key_at a ≤ key_at b
  keys_rise a b l m =
      lt_cases a b (λ c. omega (arith, keys_ascend a b c m)) (λ c. let e : a ≡ b = omega arith in omega (arith, ap key_at e))

  module _ {place : ℕ} {last : ℤ} (l : LastKey leaves is place last) (here : place < length is) where
    -- the keys above the last one are those of this place and later ones
    abbrev Later : Type 0
    Later =
        (from : ℕ) × From last from × (from ≤ key_at place) × ((a : ℕ) → a < length is → from ≤ key_at a → place ≤ a)

    later : Later
    later = lt_cases 0 place after first
      where
        after : 0 < place → Later
        after h =
            let key : ℕ = key_at (place - 1) in (
              suc key,
              subst (λ (z : ℤ). From z (suc key)) (sym (l.last h)) (from_key key),
              keys_ascend (place - 1) place (omega arith) here,
              λ a m g. lt_cases a place (λ c. absurd (omega (arith, keys_rise a (place - 1) (omega arith) (omega arith)))) (λ c. c),
            )

        first : place ≤ 0 → Later
        first h =
            let e : place ≡ 0 = omega arith in
            (0, subst (λ (z : ℤ). From z 0) (sym (l.none e)) from_none, omega arith, λ a m g. omega arith)

    -- so the least of them is that of this place
    least_is : least_above last keys n ≡ pos (key_at place)
    least_is =
        let t : ℕ = get_or is place 0 in
        let own : mask_bit mask t ≡ 1 = (lists.each place here).1 in
        let this : key_under mask (get_or leaves t (pos 0)) t ≡ key_at place = key-under mask (get_or leaves t (pos 0)) t own in
        let q = least_above_lem later.1 (λ i. key_under mask (get_or leaves i (pos 0)) i) keys n k.at in
        let best : ℕ = q.0 in
        let low : best ≤ key_at place = omega (arith, q.2.least t (lists.each place here).0 (omega (arith, later.2))) in
        let f = q.2.found (omega (arith, key-small place here)) in
        let i : ℕ = f.0 in
        let bit : mask_bit mask i ≡ 1 = has_key mask (get_or leaves i (pos 0)) i (omega (arith, f.3, key-small place here)) in
        let a = lists.all i (f.1, bit) in
        let that : best ≡ key_at a.0 = f.3 ∙ key-under mask (get_or leaves i (pos 0)) i bit ∙ ap (key_of leaves) (sym a.2) in
        let high = keys_rise place a.0 (later.3 a.0 a.1 (omega (arith, f.2, f.3))) a.1 in
        let e : best ≡ key_at place = omega arith in
        q.1 ∙ ap pos e

    -- what `next_key` answers
    module _ {key : ℤ} (e : key ≡ least_above last keys n) where
      next-key : key ≡ pos (key_at place)
      next-key = e ∙ least_is

      pub next_place : {next : ℕ} → next ≡ place + 1 → LastKey leaves is next key
      next_place {next} h = record {
        none = λ z. absurd (omega arith);
        last = λ z. let p : place ≡ next - 1 = omega arith in next-key ∙ ap (λ (a : ℕ). pos (key_at a)) p;
      }

      -- what `index_of` asks of it and answers
      pub next_positive : key ≡ pos (nat_abs key)
      next_positive = next-key ∙ ap (λ (z : ℤ). pos (nat_abs z)) (sym next-key)

      pub next_index : nat_abs key % longest ≡ get_or is place 0
      next_index = omega (arith, ap nat_abs next-key, (lists.each place here).0, k.fits)
