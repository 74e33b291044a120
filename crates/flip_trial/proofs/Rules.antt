-- A rule stored at each of some indices: what the array then holds, and that a later trial's flips leave the rules of a plain pass.
use mathlib.Core.Path.{◌≡◌, refl, sym, ap, ◌∙◌, subst}
use mathlib.Core.Bool.{Bool, true, false, ◌||◌, cond}
use mathlib.Core.List.{List, [], ◌∷◌}
use Prim.Native.Nat.{ℕ, suc, ◌≤◌, suc-le-suc}
use native.Mathlib.Omega.{arith}
use borrow.Author.Tests.{eqb-true, eqb-false}
use lib.Dec.{eqb}
use lib.ListN.{length, get_or, set, length-set}
use lib.Seq.{get_or-set_same, get_or-set_other, ext_get_or}
use Rattle.code.specs.declared.Code.{Code}
use Rattle.code.specs.Code.{code_length}
use Rattle.values.specs.Values.{usual, opposite, mask_rule}
use Rattle.values.specs.Clauses.{rule_of}
use Rattle.values.proofs.Rules.{rule_usual}
use Rattle.pass_ends.specs.Clauses.{rule_at}
use Rattle.flip_trial.specs.Trial.{member}
use Rattle.flip_trial.specs.Flips.{Flips}
use Rattle.flip_trial.specs.Clauses.{Below, set_all, PlainRules}
use Rattle.flip_trial.proofs.Flips.{member-each}

pub length-set_all : (w is : List ℕ) (x : ℕ) → length (set_all w is x) ≡ length w
length-set_all w [] x = refl
length-set_all w (i ∷ is) x = length-set_all (set w i x) is x ∙ length-set w i x

get_or-set_all : (w is : List ℕ) (x : ℕ) → Below (length w) is → (j : ℕ) → get_or (set_all w is x) j 0 ≡ cond (member j is) x (get_or w j 0)
get_or-set_all w [] x below j = refl
get_or-set_all w (i ∷ is) x below j =
    get_or-set_all (set w i x) is x (record { at = λ a l. omega (arith, length-set w i x, below.at (suc a) (suc-le-suc l)) }) j ∙ here (eqb j i) refl (member j is)
  where
    here : (t : Bool) → eqb j i ≡ t → (m : Bool) → cond m x (get_or (set w i x) j 0) ≡ cond (t || m) x (get_or w j 0)
    here true e true = refl
    here true e false = ap (λ (k : ℕ). get_or (set w i x) k 0) (eqb-true j i e) ∙ get_or-set_same w i x 0 (below.at 0 (omega arith))
    here false e true = refl
    here false e false = get_or-set_other w i j x 0 (eqb-false j i e)

module _ (w is : List ℕ) (below : Below (length w) is) where
  -- what is stored last stays
  pub set_again : (x y : ℕ) → set_all (set_all w is x) is y ≡ set_all w is y
  set_again x y =
      ext_get_or 0 (set_all (set_all w is x) is y) (set_all w is y) (omega (arith, length-set_all (set_all w is x) is y, length-set_all w is x, length-set_all w is y))
      (λ j _.
      get_or-set_all (set_all w is x) is y (subst (λ (k : ℕ). Below k is) (sym (length-set_all w is x)) below) j
      ∙ ap (cond (member j is) y) (get_or-set_all w is x below j) ∙ last (member j is) (get_or w j 0)
      ∙ sym (get_or-set_all w is y below j))
    where
      last : (t : Bool) (z : ℕ) → cond t y (cond t x z) ≡ cond t y z
      last true z = refl
      last false z = refl

  rule-set : (x : ℕ) (j : ℕ) → rule_at (set_all w is x) j ≡ cond (member j is) (rule_of x) (rule_at w j)
  rule-set x j = ap rule_of (get_or-set_all w is x below j) ∙ chosen (member j is)
    where
      chosen : (t : Bool) → rule_of (cond t x (get_or w j 0)) ≡ cond t (rule_of x) (rule_at w j)
      chosen true = refl
      chosen false = refl

  pub rule_opposite : (j : ℕ) → rule_at (set_all w is 3) j ≡ cond (member j is) opposite (rule_at w j)
  unfolding rule_of
  rule_opposite j = rule-set 3 j

  pub rule_usual_again : (j : ℕ) → rule_at (set_all w is 1) j ≡ cond (member j is) usual (rule_at w j)
  unfolding rule_of
  rule_usual_again j = rule-set 1 j

-- information indices with the usual rule stored: still the rules of a plain pass
pub plain_again : {room : ℕ} {mask : List ℕ} {c : Code} {rules is : List ℕ} → PlainRules room mask c rules → Flips mask (code_length c) is → code_length c ≤ room → PlainRules room mask c (set_all rules is 1)
plain_again {room} {mask} {c} {rules} {is} plain flips fits = record {
  ruled = record { at = λ j l. rule_usual_again rules is below j ∙ still j (plain.ruled.at j l) (member j is) refl };
  whole = length-set_all rules is 1 ∙ plain.whole;
}
  where
    below : Below (length rules) is
    below = record { at = λ a l. omega (arith, flips.below a l, plain.whole) }

    still : (j : ℕ) → rule_at rules j ≡ mask_rule mask j → (t : Bool) → member j is ≡ t → cond t usual (rule_at rules j) ≡ mask_rule mask j
    still j e true m = member-each (λ k. usual ≡ mask_rule mask k) is (λ a l. sym (rule_usual mask (get_or is a 0) (flips.information a l))) j m
    still j e false m = e
