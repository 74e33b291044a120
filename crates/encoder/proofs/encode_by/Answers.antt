-- `encoder::encode_by` meets its contract: the definition goes by the judgement.
use Rattle.std.proofs.Common.{sym, ap, ◌∙◌, List, ℕ, Ok, Err}
use Rattle.refusal.proofs.Judge.{refused_by}
use Rattle.refusal.proofs.Passed.{passed_on}
use Rattle.encoder.specs.Encode.{codeword, encoded_by}
use Rattle.encoder.specs.Clauses.{Encoded}
use Rattle.encoder.proofs.WellFormed.{fine_well_formed, well_formed_answer}
use Rattle.encoder.proofs.encode_by.Goals as goal

pub returns-in_err-judge_encoding : goal.returns-in_err-judge_encoding
unfolding encoded_by
returns-in_err-judge_encoding c =
    let x = c.args in
    let m = x.masked.now in
    ap (λ (r : Encoded). (r, x.output.now)) (passed_on _ _ c.from_residual.ensures)
    ∙ sym (refused_by (λ i. (Err i, x.output.now)) (Ok tt, codeword m.mask.now m.code x.payload.now) _ _ (sym c.judge_encoding.ensures ∙ c.in_err-judge_encoding.was))

pub write_codeword-requires : goal.write_codeword-requires
write_codeword-requires c =
    fine_well_formed c.args.masked.now.code c.args.payload.now c.args.output.now (sym c.judge_encoding.ensures ∙ c.in_ok-judge_encoding.was)

pub returns : goal.returns
returns c =
    let x = c.args in
    let m = x.masked.now in
    ap (λ (bytes : List ℕ). (Ok tt, bytes)) c.write_codeword.ensures
    ∙ sym (well_formed_answer m.code x.payload.now x.output.now m.mask.now (fine_well_formed m.code x.payload.now x.output.now (sym c.judge_encoding.ensures ∙ c.in_ok-judge_encoding.was)))
