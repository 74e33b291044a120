use Prim.Native.Nat.{◌^◌}
use native.Mathlib.Nat.{add-zero, add_assoc}
use native.Mathlib.Numerals.{add-one}
use lib.Pow.{pow_mono}
use Rattle.std.proofs.Common.{arith, ◌≡◌, refl, ap, ap₂, sym, ◌∙◌, cond, ◌+◌, ◌*◌, ◌<◌, ◌≤◌, eqb, length, get_or, ℕ, List}
use Rattle.std.proofs.Common.{ℤ, pos, ◌+ℤ◌, to_z, of_z, w32, true, false}
use Rattle.std.proofs.lemmas.Int.{ints}
use lib.Signed.{lt_z}
use Rattle.bits.specs.Bit.{number}
use Rattle.bits.specs.Mask.{mask_bit}
use Rattle.bits.proofs.Mask.{ones_le, mask_bit_lt}
use Rattle.bits.proofs.Number.{number_lt}
use Rattle.walk.specs.declared.Walk.{Walk}
use Rattle.walk.specs.Walked.{walked}
use Rattle.walk.proofs.Walked.{ones_are, next_bit, next_walk, may_look}
use Rattle.placing.specs.Clauses.{PlacePre}
use Rattle.placing.proofs.Placing.{get_or-placed, bits-placed}
use Rattle.placing.proofs.placed_byte.Invariants.{bit_at, Looked}
use Rattle.placing.proofs.placed_byte.Goals as goal
use Rattle.placing.proofs.placed_byte.Goals.{After-placed_bit}

-- the counter of the loop, a signed one, is the number b of bits
module _ {t : ℤ} {b : ℕ} (same : t ≡ pos b) where
  below : {n : ℕ} → lt_z t (pos n) ≡ true → b < n
  below less = grind (arith, ints)

  not_below : {n : ℕ} → lt_z t (pos n) ≡ false → n ≤ b
  not_below more = grind (arith, ints)

  next_counter : b < 8 → to_z w32 (of_z w32 (t +ℤ pos 1)) ≡ pos (b + 1)
  next_counter less = grind (arith, ints)

-- the turn at index i = 8m + b
module _ {mask message : List ℕ} {m b byte : ℕ} {walk : Walk} (p : PlacePre mask message) (l : m < length mask) (h : b < 8) (k : Looked mask message m walk byte b) where
  abbrev i : ℕ
  i = 8 * m + b

  inside : i < 8 * length mask
  inside = omega arith

  few : 8 * length mask < 2 ^ 64
  few = omega (arith, p.short)

  -- the message bit lies in the message
  in-message : walk.ones < length message
  in-message = omega (arith, ones_are mask i k.walked_to, ones_le mask i, inside, p.room)

  -- fewer than eight bits leave room for one more
  room : byte < 128
  room =
      omega (arith, k.made, number_lt (bit_at mask message m) b (λ j. (bits-placed mask message _ p.bits).at (8 * m + j)), pow_mono {i = b} {j = 7} (omega arith))

  -- the bit of the turn, by what its look sees
  placed-is : {information c bit : ℕ} → information ≡ mask_bit mask walk.looks → c ≡ walk.ones → bit ≡ cond (eqb information 1) (get_or message c 0) 0 → bit ≡ bit_at mask message m b
  placed-is e o q =
      q
      ∙ ap₂ (λ (x n : ℕ). cond (eqb x 1) (get_or message n 0) 0) (e ∙ next_bit mask i k.walked_to) (o ∙ ones_are mask i k.walked_to)
      ∙ sym (get_or-placed mask message _ i inside)

-- the bit of a turn
bit_is : (c : After-placed_bit) → c.placed_bit.result ≡ bit_at c.args.mask.now c.args.message.now c.args.m c.loop.invariant.0
bit_is c = placed-is c.requires.0 c.requires.1 (omega (arith, below c.loop.invariant.1 c.loop-test.true)) c.loop.invariant.3 c.look-seen.ensures.0 c.ones-c.ensures c.placed_bit.ensures

pub loop-init : goal.loop-init
unfolding number
loop-init c = (0, refl, omega arith, record { walked_to = c.requires.2 ∙ ap (walked c.args.mask.now) (sym (add-zero (8 * c.args.m))); made = refl })

pub look-seen-requires : goal.look-seen-requires
look-seen-requires c =
    let p = c.requires.0 in
    let l = c.requires.1 in
    may_look c.args.mask.now (8 * c.args.m + c.loop.invariant.0) c.loop.invariant.3.walked_to (omega (arith, p.short)) (omega (arith, below c.loop.invariant.1 c.loop-test.true))

pub overflow_mul-byte : goal.overflow_mul-byte
overflow_mul-byte c = omega (arith, room c.requires.0 c.requires.1 (omega (arith, below c.loop.invariant.1 c.loop-test.true)) c.loop.invariant.3)

pub placed_bit-requires : goal.placed_bit-requires
placed_bit-requires c = (
  omega (arith, c.look-seen.ensures.0, mask_bit_lt c.args.mask.now c.loop.walk.looks),
  omega (arith, c.ones-c.ensures, in-message c.requires.0 c.requires.1 (omega (arith, below c.loop.invariant.1 c.loop-test.true)) c.loop.invariant.3),
  c.requires.0.bits,
)

pub overflow_add-byte : goal.overflow_add-byte
overflow_add-byte c =
    let small = room c.requires.0 c.requires.1 (omega (arith, below c.loop.invariant.1 c.loop-test.true)) c.loop.invariant.3 in
    let bit = (bits-placed c.args.mask.now c.args.message.now (8 * length c.args.mask.now) c.requires.0.bits).at (8 * c.args.m + c.loop.invariant.0) in
    omega (arith, small, bit_is c, bit)

pub loop-preserved : goal.loop-preserved
unfolding number
loop-preserved c =
    let b = c.loop.invariant.0 in
    let inside : b < 8 = omega (arith, below c.loop.invariant.1 c.loop-test.true) in (
      b + 1,
      next_counter c.loop.invariant.1 inside,
      omega (arith, inside),
      record {
        walked_to =
            next_walk c.args.mask.now (8 * c.args.m + b) c.loop.invariant.3.walked_to c.look-seen.ensures.1
            ∙ ap (walked c.args.mask.now) (add_assoc (8 * c.args.m) b 1);
        made = rw add-one (ap₂ (λ (x y : ℕ). x * 2 + y) c.loop.invariant.3.made (bit_is (goal.at.loop-preserved c).After-placed_bit));
      },
    )

pub returns : goal.returns
returns c =
    let mask = c.args.mask.now in
    let bits = bit_at mask c.args.message.now c.args.m in
    let e : c.loop.invariant.0 ≡ 8 = omega (arith, not_below c.loop.invariant.1 c.loop-test.false, c.loop.invariant.2) in
    let all : 8 * c.args.m + c.loop.invariant.0 ≡ 8 * (c.args.m + 1) = omega arith in
    (c.loop.invariant.3.made ∙ ap (number bits) e, c.loop.invariant.3.walked_to ∙ ap (walked mask) all)
