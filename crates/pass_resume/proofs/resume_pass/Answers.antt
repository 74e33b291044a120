-- `pass_resume::resume_pass` meets its contract, by the laws of proofs/Resuming.antt.
use Rattle.std.proofs.Common.{refl, ◌∙◌, arith}
use Rattle.arrays.proofs.Sizes.{fits}
use Rattle.pass_resume.proofs.Resuming.{resume_on, resume_work, resume_bits}
use Rattle.pass_resume.proofs.resume_pass.Goals as goal

pub rules_from-requires : goal.rules_from-requires
rules_from-requires c =
    let coded = c.args.masked.now.coded in (omega (arith, coded.mask_size, fits coded.n_most), refl)

pub copy-requires : goal.copy-requires
copy-requires c =
    let coded = c.args.masked.now.coded in (omega arith, omega (arith, c.requires.0.prefix_size, c.requires.1, fits coded.n_most))

pub pass-done-requires : goal.pass-done-requires
pass-done-requires c =
    let coded = c.args.masked.now.coded in
    resume_on c.args.bits.now coded c.requires.0 c.rules_from.ensures.0 (fits coded.n_most) c.requires.1 c.copy.ensures refl refl refl

pub copy-requires-2 : goal.copy-requires-2
copy-requires-2 c =
    let coded = c.args.masked.now.coded in
    let w = c.requires.0 in
    (omega (arith, w.channel_size, fits coded.n_most, c.pass-done.ensures.whole.bits), omega (arith, w.channel_size, w.output_size))

pub returns : goal.returns
returns c =
    let coded = c.args.masked.now.coded in
    let w = c.requires.0 in
    let rules = c.rules_from.ensures.0 in
    let e = c.pass-done.ensures in (
      resume_work c.args.bits.now coded w rules (fits coded.n_most) c.requires.1 c.copy.ensures e,
      c.copy-2.ensures ∙ resume_bits c.args.bits.now coded w rules (fits coded.n_most) c.requires.1 c.copy.ensures e,
    )
