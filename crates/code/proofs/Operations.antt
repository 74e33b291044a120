-- Operations that take a description: after its refusals come the tests of the operation. If these judge whether the rest of the input is
-- well-formed, an operation accepts exactly the calls that are well-formed as a whole.
use mathlib.Core.Path.{◌≡◌, refl, sym, ap, ◌∙◌}
use mathlib.Core.Bool.{Bool, true, false, true≢false}
use mathlib.Core.Logic.{◌↔◌}
use mathlib.Core.List.{List}
use Prim.Native.Nat.{ℕ}
use Rattle.refusal.specs.declared.Refusal.{Refusal}
use Rattle.refusal.specs.Judge.{judge, refused_or}
use Rattle.refusal.proofs.Judge.{accepts-exactly}
use Rattle.code.specs.declared.Code.{Code}
use Rattle.code.specs.Description.{describe, on_description}
use Rattle.code.specs.Claims.{WellFormedUnder}
use Rattle.std.specs.Prelude.{Err, Ok}
use Rattle.code.specs.Clauses.{Description}

module _ {X : Type 0} (accepts : X → Bool) (refuse : Refusal → X) (refuses : (x : Refusal) → accepts (refuse x) ≡ false)
    (tests : Code → List (Bool × Refusal)) (answer : Code → X) (answers : (c : Code) → accepts (answer c) ≡ true)
    {W : Code → Type 0} (fine : (c : Code) → W c ↔ (judge (tests c) ≡ Ok tt)) (d : List ℕ) where
  abbrev operation : Description → X
  operation x = on_description x refuse (λ c. refused_or (judge (tests c)) refuse (answer c))

  -- under a code
  exactly : (c : Code) → W c ↔ (accepts (operation (Ok c)) ≡ true)
  exactly c = accepts-exactly accepts refuse refuses (answer c) (answers c) (judge (tests c)) (fine c)

  accepted : (x : Description) → describe d ≡ x → accepts (operation x) ≡ true → WellFormedUnder d W
  accepted (Ok c) h e = record { code = c; describes = h; rest = (exactly c).1 e }
  accepted (Err x) h e = absurd (true≢false (sym e ∙ refuses x))

  pub under-exactly : WellFormedUnder d W ↔ (accepts (operation (describe d)) ≡ true)
  under-exactly = (
    λ w. ap (λ (x : Description). accepts (operation x)) w.describes ∙ (exactly w.code).0 w.rest,
    accepted (describe d) refl,
  )
