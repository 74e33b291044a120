-- What only contracts below the public operations cite. Nothing here need be believed.
use Rattle.std.specs.Prelude.{List, ℕ, ◌-◌, ◌^◌, ◌+◌, ◌≤◌, length, drop, ◌≡◌, ℤ}
use Rattle.laws.specs.Clauses.{splice, segment}
use Rattle.values.specs.Claims.{Within}
use Rattle.pass_tree.specs.declared.Work.{Work}
use Rattle.pass_tree.specs.Node.{work_of}

-- two values of this magnitude or less add up without overflow
abbrev pub addable : ℕ
addable = 2 ^ 30 - 1

-- the 2h values of an inner node
abbrev pub node_values : List ℤ → ℕ → List ℤ
node_values work h = segment work (h + h) (h + h)

-- an array of `size` entries, and the 2h values of a node: any two of them can be added, and none stands where those of a half are put
pub record ValuesPre (size : ℕ) (values : List ℤ → List ℤ) (h : ℕ) (work : List ℤ) : Type 0 where
  pub whole : length work ≡ size
  pub fits : h + h ≤ size
  pub long : length (values work) ≡ h + h
  pub small : Within addable (values work)
  pub apart : (later : List ℤ) → drop (h + h) later ≡ drop (h + h) work → values later ≡ values work

-- the values of a half of h entries are put in their place, and each is counted
pub record ValuesPost (values : List ℤ) (h : ℕ) (work work' : List ℤ) (done : Work) : Type 0 where
  pub stored : work' ≡ splice work h values
  pub counted : done ≡ work_of values
