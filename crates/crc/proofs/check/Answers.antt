use Rattle.std.proofs.Common.{List, ℕ, ◌+◌, sym, ap, ◌∙◌, get_or, drop, arith}
use Rattle.std.proofs.lemmas.List.{drop_all}
use Rattle.std.proofs.Math.Nat.{mod-lt}
use lib.Pow.{pow_pos}
use Rattle.bits.specs.Bit.{bits_of}
use Rattle.bits.proofs.BitsOf.{length-bits_of, bits_of-mod}
use Rattle.bits.proofs.Lists.{bits_of_lem}
use Rattle.crc.specs.Clauses.{step}
use Rattle.crc.proofs.Register.{run, run_check, run-next}
use Rattle.crc.proofs.check.Goals as goal

pub loop-bit-init : goal.loop-bit-init
loop-bit-init c =
    let r = c.args.r in
    let t = length-bits_of r c.args.poly in
    let g = length-bits_of r c.args.start in
    record {
      fits = c.requires.fits;
      left = run_check (bits_of r c.args.poly) (bits_of r c.args.start) c.args.payload.now (omega (arith, c.requires.some)) (g ∙ sym t) (bits_of_lem r c.args.start);
    }

pub register_step-register-requires : goal.register_step-register-requires
register_step-register-requires c =
    (c.requires.some, c.requires.most, rw c.feedback-word.ensures (mod-lt c.args.poly (pow_pos c.args.r)), c.loop-bit.invariant.fits)

pub loop-bit-preserved : goal.loop-bit-preserved
loop-bit-preserved c =
    let l = c.loop-bit in
    let r = c.args.r in
    let t = bits_of r c.args.poly in
    let p = c.args.payload.now in
    let word = ap (bits_of r) c.feedback-word.ensures ∙ bits_of-mod r r c.args.poly (omega arith) in
    record {
      fits = c.register_step-register.ensures.1;
      left =
          ap (λ (g : List ℕ). run t g (drop (l.bit-index + 1) p))
          (c.register_step-register.ensures.0 ∙ ap (λ (u : List ℕ). step u (bits_of r l.register) (get_or p l.bit-index 0)) word)
          ∙ sym (run-next t (bits_of r l.register) p l.bit-index (omega arith)) ∙ l.invariant.left;
    }

pub returns : goal.returns
returns c =
    let l = c.loop-bit in
    let none = drop_all l.bit-index c.args.payload.now (omega arith) in
    (rw none at l.invariant.left, l.invariant.fits)
