-- Document 01, "Resume": the whole answer and the output's final bytes, refusals in order.
use Rattle.std.specs.Prelude.{Bool, ◌&&◌, ◌||◌, List, [], ◌∷◌, ◌++◌, ℕ, ltb, eqb, length, get_or, Result, Ok, Err}
use Rattle.laws.specs.First.{first_where}
use Rattle.refusal.specs.declared.Refusal.{Refusal}
use Rattle.refusal.specs.Judge.{differs, judge, refused_or}
use Rattle.bits.specs.Mask.{mask_bit}
use Rattle.code.specs.declared.Code.{Code}
use Rattle.code.specs.Code.{code_length}
use Rattle.code.specs.Description.{mask_of, describe, on_description}
use Rattle.values.specs.Values.{mask_rule}
use Rattle.channel.specs.Channel.{channel_values, channel_refusals}
use Rattle.pass_tree.specs.declared.Work.{Work}
use Rattle.pass_tree.specs.Node.{node}
use Rattle.refusal.specs.declared.Refusal.TheVariants.{BitsLength, PrefixBit, PrefixLength}

-- the first index of a prefix byte other than 0 or 1, or of a 1 at a frozen index, which the mask does not mark; or the prefix's length
abbrev pub first_bad : List ℕ → List ℕ → ℕ
first_bad mask prefix = first_where (λ i. ltb 1 (get_or prefix i 0) || (eqb (get_or prefix i 0) 1 && eqb (mask_bit mask i) 0)) (length prefix)

-- refusals 12, 13 and 17 to 19, each test beside its refusal
abbrev pub resuming_refusals : List ℕ → Code → List ℕ → List ℕ → List ℕ → List (Bool × Refusal)
resuming_refusals mask c channel prefix output =
    channel_refusals c channel
    ++ ((ltb (code_length c) (length prefix), PrefixLength)
    ∷ (ltb (first_bad mask prefix) (length prefix), PrefixBit (first_bad mask prefix))
    ∷ (differs (length output) (code_length c), BitsLength)
    ∷ [])

-- under a code: all N bits and the steps of the pass whose first bits are the prefix; a refusal writes nothing
unfoldable pub resumed_by : List ℕ → Code → List ℕ → List ℕ → List ℕ → Result Work Refusal × List ℕ
resumed_by mask c channel prefix output =
    let o = node c.n prefix (mask_rule mask) (channel_values channel) in
    refused_or (judge (resuming_refusals mask c channel prefix output)) (λ x. (Err x, output)) (Ok o.work, o.bits)

-- under a description: its refusals come first
unfoldable pub resumed : List ℕ → List ℕ → List ℕ → List ℕ → Result Work Refusal × List ℕ
resumed d channel prefix output = on_description (describe d) (λ x. (Err x, output)) (λ c. resumed_by (mask_of d) c channel prefix output)
