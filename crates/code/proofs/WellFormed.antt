-- A description is well-formed exactly if it is accepted.
use mathlib.Core.Path.{◌≡◌, refl, ap, ap₂, ◌∙◌, subst}
use mathlib.Core.Bool.{Bool, true, false, not, ◌||◌}
use mathlib.Core.Logic.{◌↔◌}
use mathlib.Core.List.{List}
use Prim.Native.Nat.{ℕ, ◌+◌, ◌/◌, ◌^◌, ◌<◌}
use native.Mathlib.Nat.{div-eq_of_lt, div-lt_iff_lt-mul, one-mul}
use native.Mathlib.Omega.{arith}
use borrow.Author.Tests.{ltb-false, le-ltb, eqb-false, ne_eqb, not-false}
use lib.ListN.{length, get_or, take, drop}
use lib.Pow.{pow_pos}
use Rattle.laws.proofs.Choice.{or_false}
use Rattle.refusal.specs.declared.Refusal.{Refusal}
use Rattle.refusal.specs.Judge.{judge}
use Rattle.refusal.proofs.Judge.{judge-none, judge_no, judge-past, append-fine, append-past, accepts-exactly}
use Rattle.refusal.proofs.Tests.{differs-past, outside-past, differs_no, outside_no}
use Rattle.arrays.specs.Sizes.{largest_n}
use Rattle.bits.specs.Bit.{bit}
use Rattle.bits.specs.Mask.{ones_in}
use Rattle.bits.proofs.Bitwise.{bit_lt}
use Rattle.code.specs.Description.{word, mask_at, mask_of, start_of, is_wide, bad_polynomial, code_of, describe_up_to, describe}
use Rattle.code.specs.Claims.{Laid, WellFormed}
use Rattle.code.specs.Clauses.{description_refusals}
use Rattle.std.specs.Prelude.{Err, Ok, is_ok}

-- no bit at r or above is set
wide-past : (x r : ℕ) → is_wide x r ≡ false → x < 2 ^ r
wide-past x r e =
    let none = differs-past (x / 2 ^ r) 0 e in
    subst (λ (y : ℕ). x < y) (one-mul (2 ^ r)) ((div-lt_iff_lt-mul (pow_pos r)).0 (omega arith))

wide_no : (x r : ℕ) → x < 2 ^ r → is_wide x r ≡ false
wide_no x r fits = differs_no (x / 2 ^ r) 0 (div-eq_of_lt fits)

polynomial_past : (p r : ℕ) → bad_polynomial p r ≡ false → (bit p 0 ≡ 1) × (p < 2 ^ r)
polynomial_past p r e =
    let b = or_false _ _ e in
    let odd = eqb-false (bit p 0) 0 b.0 in
    (omega (arith, bit_lt p 0), wide-past p r b.1)

polynomial_no : (p r : ℕ) → bit p 0 ≡ 1 → p < 2 ^ r → bad_polynomial p r ≡ false
polynomial_no p r odd fits = ap₂ ◌||◌ (ne_eqb (bit p 0) 0 (λ z. omega arith)) (wide_no p r fits)

module _ (d : List ℕ) where
  abbrev n : ℕ
  n = get_or d 4 0

  abbrev r : ℕ
  r = get_or d 5 0

  -- refusals 1 to 5, and the others
  abbrev layout : List (Bool × Refusal)
  layout = take 5 (description_refusals d)

  abbrev others : List (Bool × Refusal)
  others = drop 5 (description_refusals d)

  pub laid_fine : Laid d → judge layout ≡ Ok tt
  laid_fine w =
      judge_no _ _ _ (le-ltb (length d) (mask_at (word d 2)) w.header)
      ∙ judge_no _ _ _ (differs_no (word d 0) (length d) w.length_field)
      ∙ judge_no _ _ _ (ap not w.kind_field)
      ∙ judge_no _ _ _ (outside_no n 3 largest_n w.n_least w.n_most)
      ∙ judge_no _ _ _ (differs_no (length d) (mask_at (word d 2) + 2 ^ n / 8) w.size)
      ∙ judge-none

  pub fine_laid : judge layout ≡ Ok tt → Laid d
  fine_laid e =
      let s1 = judge-past _ _ _ e in
      let s2 = judge-past _ _ _ s1.1 in
      let s3 = judge-past _ _ _ s2.1 in
      let s4 = judge-past _ _ _ s3.1 in
      let s5 = judge-past _ _ _ s4.1 in
      let n-in = outside-past n 3 largest_n s4.0 in
      record {
        header = ltb-false (length d) (mask_at (word d 2)) s1.0;
        length_field = differs-past (word d 0) (length d) s2.0;
        kind_field = not-false _ s3.0;
        n_least = n-in.0;
        n_most = n-in.1;
        size = differs-past (length d) (mask_at (word d 2) + 2 ^ n / 8) s5.0;
      }

  pub well_formed_fine : WellFormed d → judge (description_refusals d) ≡ Ok tt
  well_formed_fine w =
      append-fine layout others (laid_fine w.laid)
      ∙ judge_no _ _ _ (outside_no r 1 16 w.r_least w.r_most)
      ∙ judge_no _ _ _ (polynomial_no (word d 6) r w.polynomial_odd w.polynomial_fits)
      ∙ judge_no _ _ _ (wide_no (start_of d) r w.start_fits)
      ∙ judge_no _ _ _ (le-ltb (ones_in (mask_of d)) (r + 1) w.K_least)
      ∙ judge-none

  pub fine_well_formed : judge (description_refusals d) ≡ Ok tt → WellFormed d
  fine_well_formed e =
      let s5 = append-past layout others e in
      let s6 = judge-past _ _ _ s5.1 in
      let s7 = judge-past _ _ _ s6.1 in
      let s25 = judge-past _ _ _ s7.1 in
      let s8 = judge-past _ _ _ s25.1 in
      let r-in = outside-past r 1 16 s6.0 in
      let p-in = polynomial_past (word d 6) r s7.0 in
      record {
        laid = fine_laid s5.0;
        r_least = r-in.0;
        r_most = r-in.1;
        polynomial_odd = p-in.0;
        polynomial_fits = p-in.1;
        start_fits = wide-past (start_of d) r s25.0;
        K_least = ltb-false (ones_in (mask_of d)) (r + 1) s8.0;
      }

  pub well_formed_exactly : WellFormed d ↔ (is_ok (describe d) ≡ true)
  unfolding describe_up_to
  well_formed_exactly = accepts-exactly is_ok Err (λ x. refl) (Ok (code_of d)) refl (judge (description_refusals d)) (well_formed_fine, fine_well_formed)
