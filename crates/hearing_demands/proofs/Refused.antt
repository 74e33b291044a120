-- A refused call changes nothing.
use mathlib.Core.Path.{◌≡◌, refl}
use Prim.Native.Nat.{ℕ}
use native.Mathlib.Omega.{arith}
use Rattle.refusal.specs.declared.Refusal.{Refusal}
use Rattle.refusal.specs.Judge.{judge, refused_or}
use Rattle.code.specs.declared.Code.{Code}
use Rattle.code.specs.Description.{on_description}
use Rattle.hearing.specs.Hearing.{add_refusals}
use Rattle.hearing_state.specs.State.{State, code_of_state, refused_in}
use Rattle.hearing_state.specs.Clauses.{added_under}
use Rattle.hearing_demands.specs.Repeats.{add, clear}
use Rattle.hearing_demands.specs.Claims.{RefusedKeeps}
use Rattle.std.specs.Prelude.{Err, Ok}
use Rattle.refusal.specs.Clauses.{Judgement}
use Rattle.code.specs.Clauses.{Description}

module _ (s : State) (x : Refusal) where
  abbrev Keeps : Judgement × State → Type 0
  Keeps a = a.0 ≡ Err x → a.1 ≡ s

  -- a call that is not refused does not answer with a refusal
  fine_keeps : (after : State) → Keeps (Ok tt, after)
  fine_keeps after e = let z : ◌≡◌ {A = ℕ} 0 1 = cc in absurd (omega arith)

  judged_keeps : (j : Judgement) (after : State) → Keeps (refused_or j (refused_in s) (Ok tt, after))
  unfolding refused_or
  judged_keeps (Ok tt) after e = fine_keeps after e
  judged_keeps (Err y) after e = refl

  coded_keeps : (a : Description) (go : Code → Judgement × State) → ((c : Code) → Keeps (go c)) → Keeps (on_description a (refused_in s) go)
  coded_keeps (Ok c) go keeps e = keeps c e
  coded_keeps (Err y) go keeps e = refl

pub refused_keeps : RefusedKeeps
refused_keeps s (add channel) x =
    coded_keeps s x (code_of_state s) (λ c. added_under c s channel) (λ c. judged_keeps s x (judge (add_refusals c s.hearing.count channel)) _)
refused_keeps s clear x = coded_keeps s x (code_of_state s) _ (λ c. fine_keeps s x _)
