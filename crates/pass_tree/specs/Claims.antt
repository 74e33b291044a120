-- What the theorems of this crate state of its definitions.
use Rattle.std.specs.Prelude.{◌≡◌, cond, ℕ, zero, suc, ◌+◌, ◌-◌, ◌*◌, ◌^◌, leb, ℤ, pos, length, get_or, take, drop}
use mathlib.Core.List.{List, [], ◌∷◌, ◌++◌, Memᴰ}
use Rattle.values.specs.Values.{Rule, right_values, left_values}
use Rattle.values.specs.Claims.{Within}
use Rattle.pass_tree.specs.Node.{Out, node}

-- the largest magnitude at layer s of a pass whose root is layer n
abbrev pub most : ℕ → ℕ → ℕ
most n s = 31 * 2 ^ (n - s)

-- the nodes that `node s p rule v` works on, itself first, each as its layer and its values: all nodes but those whose bits are all forced
unfoldable pub worked : ℕ → List ℕ → (ℕ → Rule) → List ℤ → List (ℕ × List ℤ)
worked zero p rule v = cond (leb 1 (length p)) [] ((0, v) ∷ [])
worked (suc s) p rule v =
    cond (leb (2 ^ suc s) (length p)) []
    (let h = 2 ^ s in
    let left = cond (leb h (length p)) [] (left_values h v) in
    let right = right_values h v (node s (take h p) rule left).sums in
    (suc s, v) ∷ (worked s (take h p) rule left ++ worked s (drop h p) (λ i. rule (h + i)) right))

-- how many values some nodes have
abbrev pub values_in : List (ℕ × List ℤ) → ℕ
values_in [] = 0
values_in ((s, w) ∷ ws) = length w + values_in ws

-- the values of the leaves among some nodes
abbrev pub leaves_in : List (ℕ × List ℤ) → List ℤ
leaves_in [] = []
leaves_in ((zero, w) ∷ ws) = get_or w 0 (pos 0) ∷ leaves_in ws
leaves_in ((suc s, w) ∷ ws) = leaves_in ws

-- `ws` are the nodes that a pass on v, of 2^n values, works on if its result is o. `pass-magnitudes` of proofs/Bounds.antt proves it
-- of `worked`.
pub record WorksOn (n : ℕ) (v : List ℤ) (o : Out) (ws : List (ℕ × List ℤ)) : Type 0 where
  -- they have one value for each step, beside v
  pub values : values_in ws ≡ length v + o.work.steps
  -- the leaves have the leaf values
  pub leaves : leaves_in ws ≡ o.leaves
  -- a node at layer s has 2^s values
  pub sizes : (x : ℕ × List ℤ) → Memᴰ x ws → length x.1 ≡ 2 ^ x.0
  -- no magnitude exceeds its layer's bound
  pub bounded : (x : ℕ × List ℤ) → Memᴰ x ws → Within (most n x.0) x.1
