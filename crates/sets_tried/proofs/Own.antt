-- A trial takes the opposite of its own usual decision at each index of its set, wherever it resumes.
use mathlib.Core.Path.{◌≡◌, sym, ap, ◌∙◌}
use mathlib.Core.Bool.{Bool, true, false, cond}
use mathlib.Core.List.{List, [], ◌∷◌}
use Prim.Native.Nat.{ℕ, ◌<◌}
use native.Mathlib.Nat.{zero-add}
use native.Mathlib.Omega.{arith}
use lib.IntN.{ℤ, pos}
use lib.ListN.{get_or}
use Rattle.bits.specs.Mask.{mask_bit}
use Rattle.code.specs.declared.Code.{Code}
use Rattle.code.specs.Code.{code_length}
use Rattle.values.specs.Values.{Rule, opposite, mask_rule, decided}
use Rattle.values.proofs.Rules.{rule_usual}
use Rattle.pass_tree.proofs.Decisions.{bit-decided}
use Rattle.flip_trial.specs.declared.Restart.{Restart}
use Rattle.flip_trial.specs.Trial.{member, flip_rule, later_trial}
use Rattle.flip_trial.specs.Flips.{Flips}
use Rattle.flip_trial.proofs.Flips.{member-each}
use Rattle.flip_trial.proofs.Restartable.{restartable}
use Rattle.flip_trial.proofs.Agree.{same_bits}
use Rattle.decoder.specs.Clauses.{leaves_of}
use Rattle.sets_tried.specs.Claims.{OwnDecisions}
use Rattle.sets_tried.proofs.Same.{leaf-of}

-- the decision at an information index, by its rule
module _ (restart : Restart) (mask : List ℕ) (c : Code) (v : List ℤ) (i : ℕ) (is : List ℕ) (p : Flips mask (code_length c) (i ∷ is)) where
  decided-at : (j : ℕ) → j < code_length c → mask_bit mask j ≡ 1
      → get_or (later_trial restart mask c v (i ∷ is)).bits j 0 ≡ decided (flip_rule mask (i ∷ is) j) (get_or (leaves_of restart mask c v (i ∷ is)) j (pos 0))
  decided-at j l e =
      ap (λ (bits : List ℕ). get_or bits j 0) (same_bits mask c v (i ∷ is) p _ (restartable p restart))
      ∙ bit-decided c.n [] (flip_rule mask (i ∷ is)) v (omega arith) j j (zero-add j) l
      ∙ ap (decided (flip_rule mask (i ∷ is) j)) (sym (leaf-of mask c v restart i is p j l e))

  by-rule : (j : ℕ) → j < code_length c → mask_bit mask j ≡ 1 → (t : Bool) → member j (i ∷ is) ≡ t
      → get_or (later_trial restart mask c v (i ∷ is)).bits j 0 ≡ decided (cond t opposite (mask_rule mask j)) (get_or (leaves_of restart mask c v (i ∷ is)) j (pos 0))
  by-rule j l e t m =
      decided-at j l e ∙ ap (λ (u : Bool). decided (cond u opposite (mask_rule mask j)) (get_or (leaves_of restart mask c v (i ∷ is)) j (pos 0))) m

  decisions : OwnDecisions restart mask c v (i ∷ is)
  decisions = record {
    flipped = λ j l m. by-rule j l (member-each (λ k. mask_bit mask k ≡ 1) (i ∷ is) p.information j m) true m;
    others = λ j l m e. by-rule j l e false m ∙ ap (λ (r : Rule). decided r (get_or (leaves_of restart mask c v (i ∷ is)) j (pos 0))) (rule_usual mask j e);
  }

pub own-decisions : (restart : Restart) (mask : List ℕ) (c : Code) (v : List ℤ) (is : List ℕ) → Flips mask (code_length c) is → OwnDecisions restart mask c v is
own-decisions restart mask c v [] p = absurd (omega (arith, p.some))
own-decisions restart mask c v (i ∷ is) p = decisions restart mask c v i is p
