-- What only contracts below the public operations cite. Nothing here need be believed.
use Rattle.std.specs.Prelude.{Bool, ◌||◌, ◌&&◌, List, [], ◌∷◌, ℕ, ltb, eqb, length, Result}
use Rattle.refusal.specs.declared.Refusal.{Refusal}
use Rattle.refusal.specs.Judge.{differs}
use Rattle.code.specs.declared.Code.{Code}
use Rattle.code.specs.Code.{code_length}
use Rattle.values.specs.Values.{mask_rule}
use Rattle.channel.specs.Channel.{channel_values}
use Rattle.pass_tree.specs.Node.{Out, node}
use Rattle.pass_resume.specs.Resume.{first_bad}
use Rattle.refusal.specs.declared.Refusal.TheVariants.{BitsLength, PrefixBit, PrefixLength}
use Rattle.pass_tree.specs.declared.Work.{Work}

-- what resume answers: the work of the pass
abbrev pub Resumed : Type 0
Resumed = Result Work Refusal

-- a prefix byte other than 0 or 1, or a 1 at a frozen index, which the mask does not mark
abbrev pub bad_bit : ℕ → ℕ → Bool
bad_bit byte marked = ltb 1 byte || (eqb byte 1 && eqb marked 0)

-- the pass whose first bits are the prefix
abbrev pub resume_pass : List ℕ → Code → List ℕ → List ℕ → Out
resume_pass mask c channel prefix = node c.n prefix (mask_rule mask) (channel_values channel)

-- refusals 17 to 19, each test beside its refusal
abbrev pub prefix_refusals : List ℕ → Code → List ℕ → List ℕ → List (Bool × Refusal)
prefix_refusals mask c prefix output =
    (ltb (code_length c) (length prefix), PrefixLength)
    ∷ (ltb (first_bad mask prefix) (length prefix), PrefixBit (first_bad mask prefix))
    ∷ (differs (length output) (code_length c), BitsLength)
    ∷ []
