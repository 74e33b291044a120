-- `encoder::write_codeword` meets its contract: the message is placed, and then transformed.
use Rattle.std.proofs.Common.{◌≡◌, sym, ap, ap₂, ◌∙◌, arith, List, ℕ}
use Rattle.arrays.specs.Claims.{longest}
use Rattle.arrays.proofs.Sizes.{fits}
use Rattle.bits.specs.Packing.{packed, unpacked}
use Rattle.bits.proofs.Lists.{bits-unpacked}
use Rattle.bits.proofs.Packing.{unpacked-packed}
use Rattle.code.specs.declared.Code.{Code}
use Rattle.code.specs.Code.{code_length}
use Rattle.crc.proofs.Polynomial.{bits-zeros}
use Rattle.placing.proofs.Placing.{length-placed, bits-placed}
use Rattle.transform.specs.Transform.{transformed}
use Rattle.encoder.specs.Encode.{codeword}
use Rattle.encoder.specs.Clauses.{placed_message}
use Rattle.encoder.proofs.Message.{bits-message}
use Rattle.encoder.proofs.write_codeword.Goals as goal

-- the placed bits back
placed_bits : (mask : List ℕ) (c : Code) (payload output : List ℕ) → output ≡ packed (placed_message mask c payload) → unpacked output (code_length c) ≡ placed_message mask c payload
placed_bits mask c payload output is =
    let u : List ℕ = placed_message mask c payload in
    ap₂ unpacked is (sym (length-placed mask _ (code_length c))) ∙ unpacked-packed u (bits-placed mask _ (code_length c) (bits-message c _ (bits-unpacked _ _)))

pub place_message-requires : goal.place_message-requires
place_message-requires c =
    let coded = c.args.masked.now.coded in
    record { well_formed = c.requires; room_size = fits coded.n_most; room_bits = bits-zeros longest }

pub transform_in-requires : goal.transform_in-requires
transform_in-requires c =
    let coded = c.args.masked.now.coded in
    record {
      n_least = coded.n_least;
      n_most = coded.n_most;
      room_size = c.place_message.auto.room;
      output_size = omega (arith, c.place_message.auto.output, c.requires.output_size, coded.mask_size);
    }

pub returns : goal.returns
unfolding codeword
returns c =
    let x = c.args in
    c.transform_in.ensures
    ∙ ap (λ (y : List ℕ). packed (transformed x.masked.now.code.n y)) (placed_bits x.masked.now.mask.now x.masked.now.code x.payload.now _ c.place_message.ensures)
