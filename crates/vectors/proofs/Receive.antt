-- Document 01's example of `receive`, by computation: D, then V with T = 2, then V with T = 1. And two inputs that are cut.
use mathlib.Core.Path.{◌≡◌, refl}
use mathlib.Core.List.{List, ◌∷◌, ◌++◌}
use Prim.Native.Nat.{ℕ}
use lib.ListN.{take}
use Rattle.laws.specs.First.{first_where}
use Rattle.laws.specs.Table.{table}
use Rattle.laws.specs.Insert.{insert_by, sort_by}
use Rattle.refusal.specs.Judge.{judge, refused_or}
use Rattle.bits.specs.Bit.{number}
use Rattle.bits.specs.Mask.{ones_below}
use Rattle.bits.specs.Packing.{packed}
use Rattle.code.specs.Description.{describe_up_to}
use Rattle.crc.specs.Check.{check_of}
use Rattle.transform.specs.Transform.{covers, parity, transformed, xors}
use Rattle.placing.specs.Place.{taken}
use Rattle.values.specs.Values.{right_values, left_values, g, f}
use Rattle.channel.specs.Channel.{channel_value}
use Rattle.pass_tree.specs.Node.{node}
use Rattle.flip_order.specs.Order.{information}
use Rattle.flip_run.specs.Trials.{run}
use Rattle.decoder.specs.Decoder.{decoded_under, decoded_as}
use Rattle.receive_lines.specs.Text.{text}
use Rattle.receive_lines.specs.Line.{decimal_in}
use Rattle.receive_record.specs.Respond.{description_response, responded}
use Rattle.receive_stream.specs.Stream.{records_in, responses, printed_from, printed}
use Rattle.receive_frame.specs.Frame.{decoding_line, channel_line}
use Rattle.vectors.proofs.Descriptions.{D, starred_v}

-- V as a channel record, with trial limit T
abbrev channel_v : ℕ → List ℕ
channel_v T = 0x0E ∷ 0x00 ∷ 0x02 ∷ 0x00 ∷ T ∷ 0x00 ∷ starred_v 2

-- the whole input and all that it prints
pub example : printed (D ++ (channel_v 2 ++ channel_v 1)) ≡ text "code 8 3 1\nok 2 32 00\nno 16\nend 3\n"
unfolding judge refused_or table number ones_below packed describe_up_to check_of covers parity transformed xors taken channel_value f g left_values right_values first_where node information insert_by sort_by run decoded_under decoded_as decimal_in description_response decoding_line channel_line responded records_in responses printed_from
example = refl

-- cut inside the second record, and by a length of 3, after which nothing is read
pub example_cut : (printed (D ++ take 13 (channel_v 2)) ≡ text "code 8 3 1\ncut\nend 1\n") × (printed (0x03 ∷ 0x00 ∷ 0x01 ∷ 0x00 ∷ D) ≡ text "cut\nend 0\n")
unfolding judge refused_or ones_below describe_up_to decimal_in description_response responded records_in responses printed_from
example_cut = (refl, refl)
