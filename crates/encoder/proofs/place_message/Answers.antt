-- `encoder::place_message` meets its contract: what follows the message in the room is not placed.
use Rattle.std.proofs.Common.{◌≡◌, sym, ap, ap₂, ◌∙◌, subst, arith, List, ◌++◌, ℕ, ◌*◌, ◌≤◌, length, take, drop, length-append, length-drop}
use lib.Seq.{length-take-le}
use Rattle.laws.specs.Clauses.{splice}
use Rattle.laws.proofs.Segment.{splice-whole}
use Rattle.arrays.proofs.Sizes.{mask_fits}
use Rattle.bits.specs.Claims.{Bits}
use Rattle.bits.specs.Packing.{packed, unpacked}
use Rattle.bits.proofs.Lists.{bits-append, bits-drop, bits-unpacked}
use Rattle.bits.proofs.Packing.{length-packed}
use Rattle.code.specs.declared.Code.{Code}
use Rattle.code.specs.Code.{code_length, information_count}
use Rattle.code.specs.Claims.{Coded}
use Rattle.placing.specs.Place.{placed}
use Rattle.placing.specs.Clauses.{PlacePre}
use Rattle.placing.proofs.Placing.{length-placed, placed-append}
use Rattle.encoder.specs.Encode.{message_of}
use Rattle.encoder.specs.Clauses.{PayloadPre, placed_message}
use Rattle.encoder.proofs.Message.{bits-message}
use Rattle.encoder.proofs.place_message.Goals as goal

-- the message in the room, and what follows it
module _ {mask : List ℕ} {c : Code} {payload room output message : List ℕ} (coded : Coded mask c) (pre : PayloadPre c payload room output)
    (there : length message ≡ length (take (information_count c) room)) (is : message ≡ message_of c (unpacked payload c.k)) where
  abbrev rest : List ℕ
  rest = drop (information_count c) room

  message-length : length message ≡ information_count c
  message-length = there ∙ length-take-le _ _ (omega (arith, coded.K_most, pre.room_size))

  room-length : length (message ++ rest) ≡ length room
  room-length = length-append message rest ∙ omega (arith, message-length, length-drop (information_count c) room, coded.K_most, pre.room_size)

  placing : PlacePre mask (message ++ rest) × (length mask ≤ length output)
  placing =
      let bits : Bits message = subst Bits (sym is) (bits-message c _ (bits-unpacked _ _)) in (
        record {
          short = mask_fits coded.n_most coded.mask_size;
          room = omega (arith, room-length, pre.room_size, coded.mask_size);
          bits = bits-append message rest bits (bits-drop (information_count c) room pre.room_bits);
        },
        omega (arith, pre.well_formed.output_size, coded.mask_size),
      )

  placed-is : splice output 0 (packed (placed mask (message ++ rest) (8 * length mask))) ≡ packed (placed_message mask c payload)
  placed-is =
      let u : List ℕ = placed_message mask c payload in
      let size : length u ≡ code_length c = length-placed mask _ _ in
      let all : placed mask (message ++ rest) (8 * length mask) ≡ u =
      placed-append mask message rest (8 * length mask) (omega (arith, message-length, coded.K_is)) ∙ ap₂ (placed mask) is coded.mask_size in
      ap (λ (x : List ℕ). splice output 0 (packed x)) all ∙ splice-whole output (packed u) (length-packed u ∙ omega (arith, size, pre.well_formed.output_size))

pub place-requires : goal.place-requires
place-requires c = placing c.args.masked.now.coded c.requires c.message_of.auto.message c.message_of.ensures

pub returns : goal.returns
returns c = c.place.ensures.1 ∙ placed-is c.args.masked.now.coded c.requires c.message_of.auto.message c.message_of.ensures
