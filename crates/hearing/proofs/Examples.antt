-- Document 02, request 2.6: examples by computation.
use mathlib.Core.Path.{◌≡◌, refl}
use mathlib.Core.List.{List, [], ◌∷◌}
use Prim.Native.Nat.{ℕ}
use Rattle.laws.specs.First.{first_where}
use Rattle.laws.specs.Table.{table}
use Rattle.refusal.specs.Judge.{judge}
use Rattle.code.specs.declared.Code.{Code}
use Rattle.channel.specs.Channel.{channel_value}
use Rattle.hearing.specs.Hearing.{clipped_sums, add_refusals}
use Rattle.hearing.specs.Clauses.{clipped_sum}
use Rattle.refusal.specs.declared.Refusal.TheVariants.{ChannelLength, ChannelValue, HearingFull}
use Rattle.std.specs.Prelude.{Err, Ok}

-- a code of eight values
abbrev eight : Code
eight = record { n = 3; r = 1; polynomial = 1; start = 0; k = 3 }

-- seven zeros, and those with a value more
abbrev seven : List ℕ → List ℕ
seven more = 0 ∷ 0 ∷ 0 ∷ 0 ∷ 0 ∷ 0 ∷ 0 ∷ more

pub record HearingExamples : Type 0 where
  -- 20 + 20, −20 − 20, 5 − 7, −31 + 31, 31 + 0
  pub sums :
      clipped_sums 5 (20 ∷ 0xEC ∷ 5 ∷ 0xE1 ∷ 31 ∷ []) (20 ∷ 0xEC ∷ 0xF9 ∷ 31 ∷ 0 ∷ []) ≡ 31 ∷ 0xE1 ∷ 0xFE ∷ 0 ∷ 31 ∷ []
  -- each sum is clipped, so the order matters: 20 + 20 − 31 is 0, and −31 + 20 + 20 is 9
  pub each_clipped : (clipped_sum (clipped_sum 20 20) 0xE1 ≡ 0) × (clipped_sum (clipped_sum 0xE1 20) 20 ≡ 9)
  -- 12 and 13 come before 27; with a good vector 255 is refused and 254 is not
  pub refusals :
      (judge (add_refusals eight 255 (seven [])) ≡ Err ChannelLength)
      × (judge (add_refusals eight 255 (seven (32 ∷ []))) ≡ Err (ChannelValue 7))
      × (judge (add_refusals eight 255 (seven (31 ∷ []))) ≡ Err HearingFull)
      × (judge (add_refusals eight 254 (seven (31 ∷ []))) ≡ Ok tt)

pub hearing_examples : HearingExamples
unfolding channel_value table first_where judge
hearing_examples = record { sums = refl; each_clipped = (refl, refl); refusals = (refl, refl, refl, refl) }
