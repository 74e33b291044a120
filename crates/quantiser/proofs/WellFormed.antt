-- Well-formed input: the quantiser accepts exactly if none of refusals 20 to 22 applies.
use mathlib.Core.Path.{◌≡◌, refl, sym, ap, ◌∙◌, subst}
use mathlib.Core.Bool.{true, not}
use mathlib.Core.Logic.{◌↔◌}
use mathlib.Core.List.{List}
use Prim.Native.Nat.{ℕ}
use borrow.Author.Tests.{ltb-false, le-ltb, not-false}
use lib.Dec.{T}
use lib.Ieee.{Float}
use lib.Ieee.Bits.{is_true}
use lib.ListN.{length}
use Rattle.refusal.specs.Judge.{judge}
use Rattle.refusal.proofs.Judge.{judge-none, judge_no, judge-past, refused_fine, accepts-exactly}
use Rattle.refusal.proofs.Tests.{differs-past, differs_no}
use Rattle.quantiser.specs.Quantise.{first_nan, valid_scale, quantising_refusals, quantised}
use Rattle.quantiser.specs.Clauses.{accepted, Quantised}
use Rattle.quantiser.specs.Claims.{WellFormed}
use Rattle.std.specs.Prelude.{Err, Ok, is_ok}

module _ (scale : Float) (samples : List Float) (output : List ℕ) where
  pub fine_well_formed : judge (quantising_refusals scale samples output) ≡ Ok tt → WellFormed scale samples output
  fine_well_formed e =
      let t20 = judge-past _ _ _ e in
      let t21 = judge-past _ _ _ t20.1 in
      let t22 = judge-past _ _ _ t21.1 in record {
        same_length = differs-past (length samples) (length output) t20.0;
        scale_valid = subst T (sym (not-false (valid_scale scale) t21.0)) tt;
        all_numbers = ltb-false (first_nan samples) (length samples) t22.0;
      }

  well_formed_fine : WellFormed scale samples output → judge (quantising_refusals scale samples output) ≡ Ok tt
  well_formed_fine a =
      judge_no _ _ _ (differs_no (length samples) (length output) a.same_length)
      ∙ judge_no _ _ _ (ap not (is_true (valid_scale scale) a.scale_valid))
      ∙ judge_no _ _ _ (le-ltb (first_nan samples) (length samples) a.all_numbers)
      ∙ judge-none

  -- the answer to well-formed input
  pub well_formed_answer : WellFormed scale samples output → quantised scale samples output ≡ accepted scale samples
  unfolding quantised
  well_formed_answer w = refused_fine _ _ _ (well_formed_fine w)

  pub well_formed_exactly : WellFormed scale samples output ↔ (is_ok (quantised scale samples output).0 ≡ true)
  unfolding quantised
  well_formed_exactly =
      accepts-exactly (λ (z : Quantised × List ℕ). is_ok z.0) (λ x. (Err x, output)) (λ x. refl) (accepted scale samples) refl
      (judge (quantising_refusals scale samples output)) (well_formed_fine, fine_well_formed)
