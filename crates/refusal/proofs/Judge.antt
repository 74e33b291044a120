-- The first test that holds: test by test, and in lists that are appended.
use mathlib.Core.Path.{◌≡◌, refl, sym, ap, ◌∙◌}
use mathlib.Core.Bool.{Bool, true, false, cond, true≢false}
use mathlib.Core.Logic.{◌↔◌}
use mathlib.Core.List.{List, [], ◌∷◌, ◌++◌}
use Prim.Native.Nat.{ℕ}
use native.Mathlib.Omega.{arith}
use Rattle.refusal.specs.declared.Refusal.{Refusal}
use Rattle.refusal.specs.Judge.{judge, refused_or}
use Rattle.std.specs.Prelude.{Err, Ok}
use Rattle.refusal.specs.Clauses.{Judgement}

pub judge-none : judge [] ≡ Ok tt
unfolding judge
judge-none = refl

module _ (t : Bool) (x : Refusal) (rest : List (Bool × Refusal)) where
  -- the first test holds
  pub judge_yes : t ≡ true → judge ((t, x) ∷ rest) ≡ Err x
  unfolding judge
  judge_yes e = rw e

  -- it does not
  pub judge_no : t ≡ false → judge ((t, x) ∷ rest) ≡ judge rest
  unfolding judge
  judge_no e = rw e

  -- if no test holds, the first does not
  pub judge-past : judge ((t, x) ∷ rest) ≡ Ok tt → (t ≡ false) × (judge rest ≡ Ok tt)
  unfolding judge
  judge-past e = go t refl e
    where
      go : (b : Bool) → t ≡ b → cond b (Err x) (judge rest) ≡ Ok tt → (t ≡ false) × (judge rest ≡ Ok tt)
      go true h f = let z : ◌≡◌ {A = ℕ} 0 1 = cc in absurd (omega arith)
      go false h f = (h, f)

-- what a call answers, `refuse` being its answer to a refusal
module _ {X : Type 0} (refuse : Refusal → X) (answer : X) where
  pub refused_fine : (j : Judgement) → j ≡ Ok tt → refused_or j refuse answer ≡ answer
  unfolding refused_or
  refused_fine j e = rw e

  pub refused_by : (j : Judgement) (x : Refusal) → j ≡ Err x → refused_or j refuse answer ≡ refuse x
  unfolding refused_or
  refused_by j x e = rw e

  -- at a test that holds
  pub at_test : (t : Bool) (x : Refusal) (rest : List (Bool × Refusal)) → t ≡ true → refuse x ≡ refused_or (judge ((t, x) ∷ rest)) refuse answer
  at_test t x rest e = sym (refused_by _ x (judge_yes t x rest e))

  -- past a test that does not hold
  pub past-test : (t : Bool) (x : Refusal) (rest : List (Bool × Refusal)) → t ≡ false → refused_or (judge ((t, x) ∷ rest)) refuse answer ≡ refused_or (judge rest) refuse answer
  past-test t x rest e = ap (λ (j : Judgement). refused_or j refuse answer) (judge_no t x rest e)

  -- past all of them
  pub past_all : refused_or (judge []) refuse answer ≡ answer
  past_all = refused_fine (judge []) judge-none

-- what a call answers, `accepts` telling its answer from every refusal
module _ {X : Type 0} (accepts : X → Bool) (refuse : Refusal → X) (refuses : (x : Refusal) → accepts (refuse x) ≡ false) (answer : X) where
  -- if it accepts, no test holds
  pub accepted-fine : (j : Judgement) → accepts (refused_or j refuse answer) ≡ true → j ≡ Ok tt
  unfolding refused_or
  accepted-fine (Ok tt) e = refl
  accepted-fine (Err x) e = absurd (true≢false (sym e ∙ refuses x))

  -- so it accepts exactly the input of which the tests judge that it is well-formed
  pub accepts-exactly : accepts answer ≡ true → (j : Judgement) {W : Type 0} → (W ↔ (j ≡ Ok tt)) → W ↔ (accepts (refused_or j refuse answer) ≡ true)
  accepts-exactly a j fine = (λ w. ap accepts (refused_fine refuse answer j (fine.0 w)) ∙ a, λ e. fine.1 (accepted-fine j e))

-- the tests of one list, then those of another
pub judge-append : (xs ys : List (Bool × Refusal)) → judge (xs ++ ys) ≡ refused_or (judge xs) Err (judge ys)
unfolding judge refused_or
judge-append [] ys = refl
judge-append (x ∷ xs) ys = go x.0 (judge-append xs ys)
  where
    go : (t : Bool) → judge (xs ++ ys) ≡ refused_or (judge xs) Err (judge ys) → cond t (Err x.1) (judge (xs ++ ys)) ≡ refused_or (cond t (Err x.1) (judge xs)) Err (judge ys)
    go true e = refl
    go false e = e

module _ (xs ys : List (Bool × Refusal)) where
  -- the first list is decided
  pub append-fine : judge xs ≡ Ok tt → judge (xs ++ ys) ≡ judge ys
  append-fine e = judge-append xs ys ∙ refused_fine Err (judge ys) (judge xs) e

  pub append_refused : (x : Refusal) → judge xs ≡ Err x → judge (xs ++ ys) ≡ Err x
  append_refused x e = judge-append xs ys ∙ refused_by Err (judge ys) (judge xs) x e

  -- if no test of both lists holds, none of either does
  pub append-past : judge (xs ++ ys) ≡ Ok tt → (judge xs ≡ Ok tt) × (judge ys ≡ Ok tt)
  unfolding refused_or
  append-past e = go (judge xs) refl (sym (judge-append xs ys) ∙ e)
    where
      go : (j : Judgement) → judge xs ≡ j → refused_or j Err (judge ys) ≡ Ok tt → (judge xs ≡ Ok tt) × (judge ys ≡ Ok tt)
      go (Ok tt) h f = (h, f)
      go (Err x) h f = let z : ◌≡◌ {A = ℕ} 0 1 = cc in absurd (omega arith)

-- a test between them that does not hold
pub judge_without : (xs ys : List (Bool × Refusal)) (t : Bool) (x : Refusal) → t ≡ false → judge (xs ++ ((t, x) ∷ ys)) ≡ judge (xs ++ ys)
judge_without xs ys t x e =
    judge-append xs ((t, x) ∷ ys) ∙ ap (refused_or (judge xs) Err) (judge_no t x ys e) ∙ sym (judge-append xs ys)

-- what holds of each refusal in which a list of tests can end: a test is reached only if those before it fail
module _ (P : Refusal → Type 0) where
  abbrev pub Reached : List (Bool × Refusal) → Type 0
  Reached [] = Unit
  Reached (x ∷ xs) = (x.0 ≡ true → P x.1) × (x.0 ≡ false → Reached xs)

  abbrev pub Judged : Judgement → Type 0
  Judged (Ok tt) = Unit
  Judged (Err x) = P x

  pub judged_reached : (tests : List (Bool × Refusal)) → Reached tests → Judged (judge tests)
  unfolding judge
  judged_reached [] h = tt
  judged_reached (x ∷ xs) h = go x.0 refl (λ e. judged_reached xs (h.1 e))
    where
      go : (t : Bool) → x.0 ≡ t → (x.0 ≡ false → Judged (judge xs)) → Judged (cond t (Err x.1) (judge xs))
      go true e rest = h.0 e
      go false e rest = rest e
