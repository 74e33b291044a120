-- Document 02, request 2.1, at descriptions of kind 4: refusals at their edges, and `receive` on silence.
use mathlib.Core.Path.{◌≡◌, refl}
use mathlib.Core.List.{List, [], ◌∷◌, ◌++◌}
use Prim.Native.Nat.{ℕ}
use lib.ListN.{take, replicate}
use Rattle.laws.specs.First.{first_where}
use Rattle.laws.specs.Table.{table}
use Rattle.laws.specs.Insert.{insert_by, sort_by}
use Rattle.refusal.specs.Judge.{judge, refused_or}
use Rattle.bits.specs.Bit.{number}
use Rattle.bits.specs.Mask.{ones_below}
use Rattle.bits.specs.Packing.{packed}
use Rattle.code.specs.declared.Code.{Code}
use Rattle.code.specs.Description.{describe_up_to, describe}
use Rattle.code.specs.Claims.{with_start}
use Rattle.crc.specs.Check.{check_of}
use Rattle.transform.specs.Transform.{covers, parity, transformed, xors}
use Rattle.placing.specs.Place.{taken}
use Rattle.values.specs.Values.{f, g, left_values, right_values}
use Rattle.channel.specs.Channel.{channel_value}
use Rattle.pass_tree.specs.Node.{node}
use Rattle.flip_order.specs.Order.{information}
use Rattle.flip_run.specs.Trials.{run}
use Rattle.decoder.specs.Decoder.{decoded_under, decoded_as}
use Rattle.receive_lines.specs.Text.{text}
use Rattle.receive_lines.specs.Line.{decimal_in}
use Rattle.receive_frame.specs.Frame.{decoding_line, channel_line}
use Rattle.receive_record.specs.Respond.{description_response, responded}
use Rattle.receive_stream.specs.Stream.{records_in, responses, printed_from, printed}
use Rattle.vectors.proofs.Descriptions.{D}
use Rattle.std.specs.Prelude.{Err, Ok}
use Rattle.refusal.specs.declared.Refusal.TheVariants.{FieldsMissing, LengthField, Polynomial, StartValue, UnknownKind}

-- D as a record of kind 4, with a start value of one byte
abbrev D4 : ℕ → List ℕ
D4 start = 0x0B ∷ 0x00 ∷ 0x04 ∷ 0x00 ∷ 0x03 ∷ 0x01 ∷ 0x01 ∷ 0x00 ∷ start ∷ 0x00 ∷ 0xE8 ∷ []

-- n = 3, r = 1, k = 3, the polynomial z + 1, and start 1
abbrev code4 : Code
code4 = record { n = 3; r = 1; polynomial = 1; start = 1; k = 3 }

-- D with another kind
abbrev of_kind : ℕ → List ℕ
of_kind kind = 0x09 ∷ 0x00 ∷ kind ∷ 0x00 ∷ 0x03 ∷ 0x01 ∷ 0x01 ∷ 0x00 ∷ 0xE8 ∷ []

-- D4 1 is accepted, and its bytes are those of D with start 1. A start of 2 has a bit at r. Its first 8 or 9 bytes are too few, and 10 differ
-- from the length field. Kinds 0, 2, 3 and 5 are no descriptions. With a polynomial of 0 and start 2, 7 comes before 25; with start 2 and
-- one information index, 25 before 8.
pub kind_4_rows :
    (describe (D4 1) ≡ Ok code4)
    × (with_start 1 D ≡ D4 1)
    × (describe (D4 2) ≡ Err StartValue)
    × (describe (take 8 (D4 1)) ≡ Err FieldsMissing)
    × (describe (take 9 (D4 1)) ≡ Err FieldsMissing)
    × (describe (take 10 (D4 1)) ≡ Err LengthField)
    × (describe (of_kind 0) ≡ Err UnknownKind)
    × (describe (of_kind 2) ≡ Err UnknownKind)
    × (describe (of_kind 3) ≡ Err UnknownKind)
    × (describe (of_kind 5) ≡ Err UnknownKind)
    × (describe (0x0B ∷ 0x00 ∷ 0x04 ∷ 0x00 ∷ 0x03 ∷ 0x01 ∷ 0x00 ∷ 0x00 ∷ 0x02 ∷ 0x00 ∷ 0xE8 ∷ []) ≡ Err Polynomial)
    × (describe (0x0B ∷ 0x00 ∷ 0x04 ∷ 0x00 ∷ 0x03 ∷ 0x01 ∷ 0x01 ∷ 0x00 ∷ 0x02 ∷ 0x00 ∷ 0x80 ∷ []) ≡ Err StartValue)
unfolding describe_up_to judge refused_or ones_below
kind_4_rows = (refl, refl, refl, refl, refl, refl, refl, refl, refl, refl, refl, refl)

-- `receive` on D, silence with T = 1, D as kind 4, silence with T = 1 and with T = 2, and a refused start, which leaves the description held
abbrev silent : ℕ → List ℕ
silent T = 0x0E ∷ 0x00 ∷ 0x02 ∷ 0x00 ∷ T ∷ 0x00 ∷ replicate 8 0

pub example_4 : printed (D ++ (silent 1 ++ (D4 1 ++ (silent 1 ++ (silent 2 ++ (D4 2 ++ silent 1)))))) ≡ text "code 8 3 1\nok 1 24 00\ncode 8 3 1\nno 16\nok 2 35 80\nno 25\nno 16\nend 7\n"
unfolding judge refused_or table number ones_below packed describe_up_to check_of covers parity transformed xors taken channel_value f g left_values right_values first_where node information insert_by sort_by run decoded_under decoded_as decimal_in description_response decoding_line channel_line responded records_in responses printed_from
example_4 = refl
