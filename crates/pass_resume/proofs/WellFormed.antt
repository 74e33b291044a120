-- Well-formed input: resume accepts exactly if nothing of 12, 13 and 17 to 19 applies.
use mathlib.Core.Path.{◌≡◌, refl, ◌∙◌}
use mathlib.Core.Bool.{Bool, true}
use mathlib.Core.Logic.{◌↔◌}
use mathlib.Core.List.{List}
use Prim.Native.Nat.{ℕ, ◌≤◌}
use native.Mathlib.Omega.{arith}
use borrow.Author.Tests.{ltb-false, le-ltb}
use lib.ListN.{length}
use Rattle.laws.proofs.First.{first_le}
use Rattle.refusal.specs.declared.Refusal.{Refusal}
use Rattle.refusal.specs.Judge.{judge}
use Rattle.refusal.proofs.Judge.{judge-none, judge_no, judge-past, append-fine, append-past, refused_fine}
use Rattle.refusal.proofs.Tests.{differs-past, differs_no}
use Rattle.code.specs.declared.Code.{Code}
use Rattle.code.specs.Code.{code_length}
use Rattle.code.specs.Description.{mask_of}
use Rattle.code.specs.Claims.{WellFormedUnder}
use Rattle.code.proofs.Operations.{under-exactly}
use Rattle.channel.specs.Channel.{channel_refusals}
use Rattle.channel.proofs.Judge.{channel_fine, fine_channel}
use Rattle.pass_resume.specs.Resume.{first_bad, resuming_refusals, resumed_by, resumed}
use Rattle.pass_resume.specs.Clauses.{resume_pass, prefix_refusals, Resumed}
use Rattle.pass_resume.specs.Claims.{WellFormed}
use Rattle.std.specs.Prelude.{Err, Ok, is_ok}

module _ (mask : List ℕ) (c : Code) (channel prefix output : List ℕ) where
  abbrev channel_tests : List (Bool × Refusal)
  channel_tests = channel_refusals c channel

  abbrev prefix_tests : List (Bool × Refusal)
  prefix_tests = prefix_refusals mask c prefix output

  pub well_formed_fine : WellFormed mask c channel prefix output → judge (resuming_refusals mask c channel prefix output) ≡ Ok tt
  well_formed_fine w =
      append-fine channel_tests prefix_tests (channel_fine c channel w.channel_size w.in_range)
      ∙ judge_no _ _ _ (le-ltb (code_length c) (length prefix) w.prefix_size)
      ∙ judge_no _ _ _ (le-ltb (first_bad mask prefix) (length prefix) (omega (arith, w.prefix_good)))
      ∙ judge_no _ _ _ (differs_no (length output) (code_length c) w.output_size)
      ∙ judge-none

  first_bad_le : first_bad mask prefix ≤ length prefix
  first_bad_le = first_le _ (length prefix)

  pub fine_well_formed : judge (resuming_refusals mask c channel prefix output) ≡ Ok tt → WellFormed mask c channel prefix output
  fine_well_formed e =
      let fine = append-past channel_tests prefix_tests e in
      let values = fine_channel c channel fine.0 in
      let s17 = judge-past _ _ _ fine.1 in
      let s18 = judge-past _ _ _ s17.1 in
      let s19 = judge-past _ _ _ s18.1 in
      record {
        channel_size = values.0;
        in_range = values.1;
        prefix_size = ltb-false (code_length c) (length prefix) s17.0;
        prefix_good = omega (arith, ltb-false (first_bad mask prefix) (length prefix) s18.0, first_bad_le);
        output_size = differs-past (length output) (code_length c) s19.0;
      }

  -- the answer to well-formed input is the pass
  pub well_formed_answer : WellFormed mask c channel prefix output → let o = resume_pass mask c channel prefix in resumed_by mask c channel prefix output ≡ (Ok o.work, o.bits)
  unfolding resumed_by
  well_formed_answer w =
      refused_fine _ _ _ (well_formed_fine w)

-- under a description
pub well_formed_exactly : (d channel prefix output : List ℕ) → WellFormedUnder d (λ c. WellFormed (mask_of d) c channel prefix output) ↔ (is_ok (resumed d channel prefix output).0 ≡ true)
unfolding resumed resumed_by
well_formed_exactly d channel prefix output =
    under-exactly (λ (z : Resumed × List ℕ). is_ok z.0) (λ x. (Err x, output)) (λ x. refl) (λ c. resuming_refusals (mask_of d) c channel prefix output)
    (λ c. let o = resume_pass (mask_of d) c channel prefix in (Ok o.work, o.bits)) (λ c. refl)
    (λ c. (well_formed_fine (mask_of d) c channel prefix output, fine_well_formed (mask_of d) c channel prefix output)) d
