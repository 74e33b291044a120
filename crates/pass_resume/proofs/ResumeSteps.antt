-- The steps of resume in closed form, and its first bits, by the count and the bits of its pass.
use mathlib.Core.Path.{◌≡◌, refl, sym, ap, ◌∙◌}
use mathlib.Core.List.{List, [], ◌∷◌}
use Prim.Native.Nat.{ℕ, ◌+◌, ◌*◌}
use native.Mathlib.Omega.{arith}
use lib.ListN.{length, take, replicate}
use Rattle.refusal.specs.Judge.{judge, refused_or}
use Rattle.bits.specs.Mask.{ones_below}
use Rattle.code.specs.declared.Code.{Code}
use Rattle.code.specs.Code.{code_length}
use Rattle.code.specs.Description.{mask_of, describe_up_to, describe, on_description}
use Rattle.values.specs.Values.{mask_rule}
use Rattle.channel.specs.Channel.{channel_values}
use Rattle.pass_tree.specs.declared.Work.{Work}
use Rattle.pass_tree.specs.Node.{Out}
use Rattle.pass_tree.specs.Skipped.{skipped}
use Rattle.pass_tree.proofs.Restart.{begins-forced}
use Rattle.pass_tree.proofs.Steps.{steps_and_skipped}
use Rattle.pass_resume.specs.Resume.{resuming_refusals, resumed_by, resumed}
use Rattle.pass_resume.specs.Clauses.{resume_pass, Resumed}
use Rattle.pass_resume.specs.ResumeSteps.{ResumeSteps}
use Rattle.pass_resume.proofs.WellFormed.{fine_well_formed, well_formed_answer}
use Rattle.std.specs.Prelude.{Err, Ok}
use Rattle.refusal.specs.Clauses.{Judgement}
use Rattle.code.specs.Clauses.{Description}

-- the steps of an answer and one more, 0 for a refusal
abbrev one_more : Resumed → ℕ
one_more (Ok work) = work.steps + 1
one_more (Err x) = 0

module _ (mask : List ℕ) (c : Code) (channel prefix output bits : List ℕ) (work : Work) where
  abbrev o : Out
  o = resume_pass mask c channel prefix

  -- an answer that is no refusal
  fine-by : (j : Judgement) → ◌≡◌ {A = Resumed × List ℕ} (refused_or j (λ x. (Err x, output)) (Ok o.work, o.bits)) (Ok work, bits) → j ≡ Ok tt
  unfolding refused_or
  fine-by (Ok tt) e = refl
  fine-by (Err x) e = absurd (omega (arith, ap (λ (z : Resumed × List ℕ). one_more z.0) e))

  fine : resumed_by mask c channel prefix output ≡ (Ok work, bits) → judge (resuming_refusals mask c channel prefix output) ≡ Ok tt
  unfolding resumed_by
  fine e = fine-by (judge (resuming_refusals mask c channel prefix output)) e

  steps_by : resumed_by mask c channel prefix output ≡ (Ok work, bits) → (work.steps + skipped c.n (length prefix) ≡ c.n * code_length c) × (take (length prefix) bits ≡ prefix)
  steps_by e =
      let w = fine_well_formed mask c channel prefix output (fine e) in
      let same = sym (well_formed_answer mask c channel prefix output w) ∙ e in
      let counted : o.work.steps + 1 ≡ work.steps + 1 = ap (λ (z : Resumed × List ℕ). one_more z.0) same in
      let whole = steps_and_skipped c.n prefix (mask_rule mask) (channel_values channel) w.prefix_size in
      let begins = begins-forced c.n prefix (mask_rule mask) (channel_values channel) w.prefix_size in
      (omega (arith, counted, whole), ap (λ (z : Resumed × List ℕ). take (length prefix) z.1) (sym same) ∙ sym begins)

pub resume_steps : ResumeSteps
unfolding resumed
resume_steps d c channel prefix output bits work code e =
    steps_by (mask_of d) c channel prefix output bits work
    (sym (ap (λ (x : Description). on_description x (λ x. (Err x, output)) (λ c. resumed_by (mask_of d) c channel prefix output)) code) ∙ e)

-- document 01's D, with N = 8
abbrev D : List ℕ
D = 0x09 ∷ 0x00 ∷ 0x01 ∷ 0x00 ∷ 0x03 ∷ 0x01 ∷ 0x01 ∷ 0x00 ∷ 0xE8 ∷ []

-- its code
abbrev code_d : Code
code_d = record { n = 3; r = 1; polynomial = 1; start = 0; k = 3 }

accepted : describe D ≡ Ok code_d
unfolding describe_up_to judge refused_or ones_below
accepted = refl

-- under D, whatever is heard, a prefix of six zeros takes 8 steps and comes back
pub after_six : (channel output bits : List ℕ) (work : Work) → resumed D channel (replicate 6 0) output ≡ (Ok work, bits) → (work.steps ≡ 8) × (take 6 bits ≡ replicate 6 0)
unfolding skipped
after_six channel output bits work e =
    let r = resume_steps D code_d channel (replicate 6 0) output bits work accepted e in
    (omega (arith, r.0), r.1)
