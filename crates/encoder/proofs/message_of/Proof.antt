-- `encoder::message_of` meets its contract.
use mathlib.Core.Path.{◌≡◌, sym, ap, ◌∙◌}
use mathlib.Core.List.{List, ◌++◌}
use Prim.Native.Nat.{ℕ, ◌+◌}
use native.Mathlib.Omega.{arith}
use borrow.Author.Rules.{rules}
use lib.ListN.{length, take, drop, length-append, length-drop}
use lib.Seq.{length-take-le, take_at}
use Rattle.bits.specs.Packing.{unpacked}
use Rattle.bits.proofs.Packing.{length-unpacked}
use Rattle.encoder.specs.Encode.{message_of}
use Rattle.encoder.proofs.message_of.Statement.{statement}
use Rattle.encoder.proofs.message_of.Tie as tie

-- the part lent for the payload's bits
part_length : (c : tie.After-unpack-arg-1) → length (take c.args.code.k c.args.message.now) ≡ c.args.code.k
part_length c = length-take-le _ _ (omega (arith, c.requires.message_size))

-- the message with the payload's bits in it
module _ (c : tie.After-unpack) where
  abbrev k : ℕ
  k = c.args.code.k

  abbrev message : List ℕ
  message = c.args.message.now

  payload-bits : c.unpack.new.bits ≡ unpacked c.args.payload.now k
  payload-bits = c.unpack.ensures ∙ ap (unpacked _) (part_length c.before)

  payload-length : length c.unpack.new.bits ≡ k
  payload-length = ap length payload-bits ∙ length-unpacked _ k

  whole_length : length (c.unpack.new.bits ++ drop k message) ≡ k + c.args.code.r
  whole_length =
      omega (arith, payload-length, length-append c.unpack.new.bits (drop k message), length-drop k message, c.requires.message_size)

returns : tie.Need-returns
returns c =
    c.append_check.ensures
    ∙ ap (message_of c.args.code) (take_at c.unpack.new.bits (drop (k c.before.before.before.before.before.before) (message c.before.before.before.before.before.before)) (k c.before.before.before.before.before.before) (payload-length c.before.before.before.before.before.before) ∙ payload-bits c.before.before.before.before.before.before)

pub message_of_spec : {M : Type 1} → statement M
message_of_spec =
    tie.close
    (tie.spec
    (λ c. search rules)
    (λ c. sym (part_length c))
    (λ c κs. omega (arith, part_length c, c.before.before.before.requires.payload_size))
    (λ c κs.
    let p = c.before.before.before.before.before.before.before.requires in
    (record { some = p.r_least; most = p.r_most; fits = omega (arith, p.start_fits) }, whole_length c.before.before.before))
    (λ c. search rules)
    returns)
