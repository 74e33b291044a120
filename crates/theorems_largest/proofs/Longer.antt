-- A larger n changes the answers to bytes that are refused as 4 with the smaller, and no others: no other test reads the largest n, and an
-- operation depends on it by the description's answer alone.
use mathlib.Core.Path.{◌≡◌, refl, sym, ap, ◌∙◌, subst}
use mathlib.Core.Bool.{Bool, true, false, true≢false}
use mathlib.Core.Logic.{◌⊎◌, inl, inr, ⊎_elim}
use mathlib.Core.List.{List, ◌∷◌, ◌++◌}
use Prim.Native.Nat.{ℕ, ◌≤◌}
use native.Mathlib.Omega.{arith}
use lib.ListN.{get_or, take, drop}
use Rattle.laws.proofs.Indices.{lt_cases}
use Rattle.refusal.specs.declared.Refusal.{Refusal}
use Rattle.refusal.specs.Judge.{outside, judge, refused_or, number_of}
use Rattle.refusal.proofs.Judge.{judge_yes, judge_no, refused_by, append-fine, append_refused, Judged, judged_reached}
use Rattle.refusal.proofs.Tests.{outside-past, outside_no}
use Rattle.arrays.specs.Sizes.{largest_n}
use Rattle.code.specs.declared.Code.{Code}
use Rattle.code.specs.Description.{refusals_up_to, code_of, describe_up_to, on_description}
use Rattle.encoder.specs.Encode.{encoded}
use Rattle.pass_resume.specs.Resume.{resumed}
use Rattle.decoder.specs.Decoder.{decoded_as}
use Rattle.theorems_largest.specs.Longer.{OldAnswers}
use Rattle.theorems_largest.specs.Claims.{NewAnswer, AnswersAs}
use Rattle.refusal.specs.declared.Refusal.TheVariants.{CodeLength}
use Rattle.std.specs.Prelude.{Err, Ok}
use Rattle.refusal.specs.Clauses.{Judgement}
use Rattle.code.specs.Clauses.{Description}

-- ---- the answer of a description, by the test of n

module _ (d : List ℕ) where
  abbrev n : ℕ
  n = get_or d 4 0

  -- the tests before that of n, and those after it
  abbrev before : List (Bool × Refusal)
  before = take 3 (refusals_up_to largest_n d)

  abbrev after : List (Bool × Refusal)
  after = drop 4 (refusals_up_to largest_n d)

  -- the answer if the test of n has the outcome t
  abbrev answer : Bool → Description
  answer t = refused_or (judge (before ++ ((t, CodeLength) ∷ after))) Err (Ok (code_of d))

  answered : (largest : ℕ) → describe_up_to largest d ≡ answer (outside n 3 largest)
  unfolding describe_up_to
  answered largest = refl

  -- if a test before it holds, that of n does not count
  answer-before : (x : Refusal) → judge before ≡ Err x → (t : Bool) → answer t ≡ Err x
  answer-before x e t = refused_by Err (Ok (code_of d)) _ x (append_refused before ((t, CodeLength) ∷ after) x e)

  -- if it counts and holds, the answer is 4
  answer_4 : judge before ≡ Ok tt → answer true ≡ Err CodeLength
  answer_4 e =
      refused_by Err (Ok (code_of d)) _ CodeLength
      (append-fine before ((true, CodeLength) ∷ after) e ∙ judge_yes true CodeLength after refl)

  -- no other test is of refusal 4
  abbrev Not4 : Refusal → Type 0
  Not4 x = number_of x ≡ 4 → ⊥

  after_not_4 : Judged Not4 (judge after)
  after_not_4 =
      judged_reached Not4 after
      (λ _ e. omega arith, λ _. (λ _ e. omega arith, λ _. (λ _ e. omega arith, λ _. (λ _ e. omega arith, λ _. (λ _ e. omega arith, λ _. tt)))))

  -- so if it does not hold, the answer is not 4
  answer_not_4 : judge before ≡ Ok tt → answer false ≡ Err CodeLength → ⊥
  unfolding refused_or
  answer_not_4 e = go (judge (before ++ ((false, CodeLength) ∷ after))) (append-fine before ((false, CodeLength) ∷ after) e ∙ judge_no false CodeLength after refl)
    where
      number : Description → ℕ
      number (Ok c) = 0
      number (Err x) = number_of x

      go : (j : Judgement) → j ≡ judge after → refused_or j Err (Ok (code_of d)) ≡ Err CodeLength → ⊥
      go (Ok tt) h f = let z : ◌≡◌ {A = ℕ} 0 4 = ap number f in omega arith
      go (Err x) h f = subst (Judged Not4) (sym h) after_not_4 (ap number f)

-- ---- two largest n

module _ (small large : ℕ) (d : List ℕ) where
  -- the test of n has one outcome
  alike : outside (n d) 3 small ≡ outside (n d) 3 large → describe_up_to small d ≡ describe_up_to large d
  alike e = answered d small ∙ ap (answer d) e ∙ sym (answered d large)

  -- it holds with `small` alone: that changes the answer if no test before it holds
  apart : outside (n d) 3 small ≡ true → outside (n d) 3 large ≡ false → (j : Judgement) → judge (before d) ≡ j → (describe_up_to small d ≡ describe_up_to large d) ⊎ NewAnswer small large d
  apart s l (Ok tt) e =
      let within = outside-past (n d) 3 large l in
      inr
      (record {
        refused = answered d small ∙ ap (answer d) s ∙ answer_4 d e;
        above = lt_cases small (n d) (λ more. more) (λ most. absurd (true≢false (sym s ∙ outside_no (n d) 3 small within.0 most)));
        most = within.1;
        other = λ f. answer_not_4 d e (sym (answered d large ∙ ap (answer d) l) ∙ f);
      })
  apart s l (Err x) e = inl (answered d small ∙ answer-before d x e _ ∙ sym (answered d large ∙ answer-before d x e _))

  pub answers : small ≤ large → (describe_up_to small d ≡ describe_up_to large d) ⊎ NewAnswer small large d
  answers more = go (outside (n d) 3 small) refl (outside (n d) 3 large) refl
    where
      go : (t : Bool) → outside (n d) 3 small ≡ t → (t' : Bool) → outside (n d) 3 large ≡ t' → (describe_up_to small d ≡ describe_up_to large d) ⊎ NewAnswer small large d
      go true s true l = inl (alike (s ∙ sym l))
      go true s false l = apart s l (judge (before d)) refl
      go false s t' l =
          let within = outside-past (n d) 3 small s in
          inl (alike (s ∙ sym (outside_no (n d) 3 large within.0 (omega arith))))

-- bytes that are not refused as 4 with the smaller
same-description : (small large : ℕ) (d : List ℕ) → small ≤ large → (describe_up_to small d ≡ Err CodeLength → ⊥) → describe_up_to small d ≡ describe_up_to large d
same-description small large d more other = ⊎_elim (λ same. same) (λ new. absurd (other new.refused)) (answers small large d more)

pub old_answers : OldAnswers
old_answers X refuse go small large d more other = ap (λ (x : Description). on_description x refuse go) (same-description small large d more other)

-- the operations at their own largest n, under an accepted description
pub as_accepted : (largest : ℕ) (d : List ℕ) (c : Code) → largest ≤ largest_n → describe_up_to largest d ≡ Ok c → AnswersAs largest d
unfolding encoded resumed decoded_as
as_accepted largest d c more e =
    let other : describe_up_to largest d ≡ Err CodeLength → ⊥ = λ f. let z : ◌≡◌ {A = ℕ} 0 1 = cc in omega arith in
    record {
      description = sym (same-description largest largest_n d more other);
      encode = λ payload output. sym (old_answers _ _ _ largest largest_n d more other);
      resume = λ channel prefix output. sym (old_answers _ _ _ largest largest_n d more other);
      decode = λ p restart channel output. sym (old_answers _ _ _ largest largest_n d more other);
    }

-- document 01 has n up to 10
pub as_10 : (d : List ℕ) (c : Code) → describe_up_to 10 d ≡ Ok c → AnswersAs 10 d
as_10 d c e = as_accepted 10 d c (omega arith) e
