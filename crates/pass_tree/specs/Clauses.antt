-- What only contracts below the public operations cite. Nothing here need be believed.
use Rattle.std.specs.Prelude.{Bool, cond, List, [], ℕ, ℤ}
use Rattle.pass_tree.specs.declared.Work.{Work}

-- the values of a half that are computed: none if it is forced
abbrev pub computed_unless : Bool → List ℤ → List ℤ
computed_unless forced values = cond forced [] values

-- the work of so many steps
abbrev pub counted : ℕ → Work
counted steps = record { steps = steps }
