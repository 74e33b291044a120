use Rattle.std.proofs.Common.{arith, ◌≡◌, pos, nat_abs, length, ℕ, ◌*◌, ◌+◌, ◌<◌, List, ◌++◌, take, drop, get_or, ℤ, to_z, of_z, w32, ap, ◌∙◌}
use Rattle.std.proofs.lemmas.List.{get_or-take, length-take-le}
use Rattle.std.proofs.lemmas.Int.{to_z-of_z}
use Rattle.laws.specs.Clauses.{splice}
use Rattle.laws.specs.Table.{table}
use Rattle.laws.proofs.Table.{length-table}
use Rattle.laws.proofs.Filling.{Filling, filling_none, filling_more, filling_past, filling_whole}
use Rattle.laws.proofs.Signed.{back-small}
use Rattle.flip_order.specs.Clauses.{KeyPre, KeysPre, key_under, keys_of}
use Rattle.flip_order.proofs.make_keys.Invariants.{key_at}
use Rattle.flip_order.proofs.make_keys.Goals as goal

module _ {mask : List ℕ} {values : List ℤ} (p : KeysPre mask values) where
  abbrev size : ℕ
  size = 8 * length mask

  abbrev leaves : List ℤ
  leaves = take size values

  many : length leaves ≡ size
  many = length-take-le size values p.there

  -- what a turn reads is the leaf value
  module _ {keys : List ℤ} {i : ℕ} (inv : Filling (key_at mask values) 0 (length leaves) leaves keys i) (l : i < length leaves) where
    abbrev read : ℤ
    read = to_z w32 (of_z w32 (get_or keys i (pos 0)))

    leaf : get_or leaves i (pos 0) ≡ get_or values i (pos 0)
    leaf = get_or-take size values i (pos 0) (omega (arith, many))

    read_is : read ≡ get_or values i (pos 0)
    read_is =
        ap (λ (z : ℤ). to_z w32 (of_z w32 z)) (filling_past inv i (pos 0) (omega arith) ∙ leaf)
        ∙ back-small w32 (get_or values i (pos 0)) (omega (arith, ap nat_abs leaf, p.small.at i))

    key-pre : KeyPre mask read i
    key-pre = record {
      below = omega (arith, many);
      fits = omega (arith, many, p.fits);
      small = omega (arith, ap nat_abs read_is, ap nat_abs leaf, p.small.at i);
    }

  -- the array with all keys in place
  whole : {keys : List ℤ} → keys ≡ table (key_at mask values) (length leaves) → keys ++ drop size values ≡ keys_of mask values
  unfolding splice
  whole e =
      let end : size ≡ 0 + length (table (key_at mask values) size) = omega (arith, length-table (key_at mask values) size) in
      rw (e, many) (ap (λ (n : ℕ). table (key_at mask values) size ++ drop n values) end)

pub loop-i-init : goal.loop-i-init
loop-i-init c = filling_none

pub key_under-requires : goal.key_under-requires
key_under-requires c = key-pre c.requires c.loop-i.invariant c.loop-i-test.true

pub loop-i-preserved : goal.loop-i-preserved
loop-i-preserved c =
    let key =
    to_z-of_z w32 c.key_under.result (record { sfits = c.key_under.type_inv })
    ∙ c.key_under.ensures
    ∙ ap (λ (z : ℤ). pos (key_under c.args.mask.now z c.loop-i.i)) (read_is c.requires c.loop-i.invariant c.loop-i-test.true) in
    filling_more c.loop-i.invariant _ _ c.loop-i-test.true (omega arith) key

pub returns : goal.returns
returns c = whole c.requires (filling_whole c.loop-i.invariant c.loop-i-test.false)
