-- `decoder::decode` meets its contract: the definition goes by what the description says.
use Rattle.std.proofs.Common.{sym, ap, ◌∙◌, subst, List, ℕ}
use Rattle.refusal.proofs.Passed.{passed_on}
use Rattle.code.specs.Claims.{Coded}
use Rattle.code.proofs.Facts.{described}
use Rattle.flip_run.specs.Clauses.{Decoded}
use Rattle.decoder.specs.Decoder.{decoded_under}
use Rattle.decoder.proofs.Decoder.{description_refused, under-code}
use Rattle.decoder.proofs.decode.Goals as goal

pub returns-in_err-code : goal.returns-in_err-code
returns-in_err-code g c =
    let x = c.args in
    let t = g.T.Trials in
    ap (λ (r : Decoded). (r, x.output.now)) (passed_on _ _ c.from_residual.ensures)
    ∙ sym (description_refused (t.decoder x.trials) (t.restart x.trials) x.description.now x.channel.now x.output.now _ (sym c.read_description.ensures ∙ c.in_err-code.was))

pub mask_of-requires : goal.mask_of-requires
mask_of-requires g c = (described c.args.description.now _ (sym c.read_description.ensures ∙ c.in_ok-code.was)).header

pub decode_by-requires : goal.decode_by-requires
decode_by-requires g c =
    subst (λ (mask : List ℕ). Coded mask c.in_ok-code.code) (sym c.mask_of.ensures)
    (described c.args.description.now _ (sym c.read_description.ensures ∙ c.in_ok-code.was)).coded

pub returns : goal.returns
returns g c =
    let x = c.args in
    let t = g.T.Trials in
    c.decode_by.ensures
    ∙ ap (λ (mask : List ℕ). decoded_under (t.decoder x.trials) (t.restart x.trials) mask c.in_ok-code.code x.channel.now x.output.now) c.mask_of.ensures
    ∙ sym (under-code (t.decoder x.trials) (t.restart x.trials) x.description.now x.channel.now x.output.now _ (sym c.read_description.ensures ∙ c.in_ok-code.was))
