-- `hearing_preview::preview_in` meets its contract: no code is the answer, and under a code `preview_under` has it.
use Rattle.std.proofs.Common.{refl, sym, ap, ◌∙◌}
use Rattle.refusal.proofs.Passed.{passed_on}
use Rattle.hearing_preview.proofs.Copy.{preview_no_code}
use Rattle.hearing_preview.proofs.preview_in.Goals as goal
use Rattle.flip_run.specs.Clauses.{Decoded}

pub returns-in_err-code : goal.returns-in_err-code
returns-in_err-code c =
    let x = c.args in (
      ap (λ (r : Decoded). (r, x.output.now)) (passed_on _ _ c.from_residual.ensures)
          ∙ sym (preview_no_code x.buffer.now x.channel.now x.limit x.output.now _ (sym c.code_in.ensures ∙ c.in_err-code.was)),
      refl,
    )

pub preview_under-requires : goal.preview_under-requires
preview_under-requires c = sym c.code_in.ensures ∙ c.in_ok-code.was

pub returns : goal.returns
returns c = (c.preview_under.ensures, refl)
