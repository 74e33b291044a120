-- The starred rows of document 01 on resume, by computation.
use mathlib.Core.Path.{◌≡◌, refl}
use mathlib.Core.List.{List, [], ◌∷◌}
use Prim.Native.Nat.{ℕ}
use lib.ListN.{replicate}
use Rattle.laws.specs.First.{first_where}
use Rattle.laws.specs.Table.{table}
use Rattle.refusal.specs.Judge.{judge, refused_or}
use Rattle.bits.specs.Mask.{ones_below}
use Rattle.code.specs.Description.{describe_up_to}
use Rattle.transform.specs.Transform.{covers, parity, transformed, xors}
use Rattle.values.specs.Values.{f, g, left_values, right_values}
use Rattle.channel.specs.Channel.{channel_value}
use Rattle.pass_tree.specs.Node.{node}
use Rattle.pass_resume.specs.Resume.{resumed_by, resumed}
use Rattle.vectors.proofs.Descriptions.{D, starred_v}
use Rattle.std.specs.Prelude.{Err, Ok}
use Rattle.refusal.specs.declared.Refusal.TheVariants.{ChannelValue}

-- an output of eight bytes
abbrev output : List ℕ
output = replicate 8 0x77

-- V with a prefix of six zeros decodes to eight zero bits in 8 steps; 31 is allowed at index 7, for a whole pass, and 32 or -32 there is refused
abbrev pub StarredResume : Type 0
StarredResume =
    (resumed D (starred_v 2) (replicate 6 0) output ≡ (Ok (record { steps = 8 }), replicate 8 0))
    × (resumed D (starred_v 31) [] output ≡ (Ok (record { steps = 24 }), 0 ∷ 0 ∷ 0 ∷ 0 ∷ 0 ∷ 1 ∷ 0 ∷ 0 ∷ []))
    × (resumed D (starred_v 32) [] output ≡ (Err (ChannelValue 7), output))
    × (resumed D (starred_v 0xE0) [] output ≡ (Err (ChannelValue 7), output))

pub starred_resume : StarredResume
unfolding judge refused_or table ones_below describe_up_to covers parity transformed xors channel_value f g left_values right_values node first_where resumed_by resumed
starred_resume = (refl, refl, refl, refl)
