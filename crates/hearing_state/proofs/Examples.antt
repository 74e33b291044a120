-- Document 02, request 2.6: a refused add and a clear, whatever the state holds.
use mathlib.Core.Path.{◌≡◌, ap}
use mathlib.Core.List.{[], ◌∷◌}
use Prim.Native.Nat.{◌^◌}
use lib.ListN.{replicate}
use Rattle.laws.specs.First.{first_where}
use Rattle.refusal.specs.Judge.{judge, refused_or}
use Rattle.arrays.specs.Sizes.{largest_n}
use Rattle.code.specs.declared.Code.{Code}
use Rattle.code.specs.Description.{on_description}
use Rattle.channel.specs.Channel.{channel_value}
use Rattle.hearing.specs.Hearing.{fresh}
use Rattle.hearing_state.specs.State.{State, code_of_state, refused_in, with_hearing, added, cleared}
use Rattle.refusal.specs.declared.Refusal.TheVariants.{ChannelLength, ChannelValue}
use Rattle.std.specs.Prelude.{Err, Ok}
use Rattle.code.specs.Clauses.{Description}

-- a code of eight values
abbrev eight : Code
eight = record { n = 3; r = 1; polynomial = 1; start = 0; k = 3 }

pub record StateExamples (s : State) : Type 0 where
  -- under that code a vector that is too short changes nothing
  pub short : code_of_state s ≡ Ok eight → added s (1 ∷ []) ≡ (Err ChannelLength, s)
  -- nor does one with a value out of range
  pub outside : code_of_state s ≡ Ok eight → added s (1 ∷ 32 ∷ 0 ∷ 0 ∷ 0 ∷ 0 ∷ 0 ∷ 0 ∷ []) ≡ (Err (ChannelValue 1), s)
  -- a clear leaves the description, zeros and count 0
  pub clear : (c : Code) → code_of_state s ≡ Ok c
      → cleared s ≡ (Ok tt, record { description = s.description; hearing = record { values = replicate (2 ^ largest_n) 0; count = 0 } })

pub state_examples : (s : State) → StateExamples s
unfolding first_where judge refused_or channel_value
state_examples s = record {
  short = λ e. rw e;
  outside = λ e. rw e;
  clear = λ c e. ap (λ (a : Description). on_description a (refused_in s) (λ c. (Ok tt, with_hearing s fresh))) e;
}
