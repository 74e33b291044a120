use native.Mathlib.Numerals.{add-one}
use Rattle.std.proofs.Common.{arith, ◌≡◌, refl, ap, sym, ◌∙◌, cond, ◌*◌, ◌<◌, ◌≤◌, eqb, length, get_or, set, take, ℕ, List}
use Rattle.std.proofs.lemmas.List.{get_or-take, length-take-le}
use Rattle.laws.specs.Clauses.{splice}
use Rattle.bits.proofs.Mask.{ones_le}
use Rattle.walk.specs.declared.Walk.{Walk}
use Rattle.walk.specs.Walked.{walked}
use Rattle.walk.proofs.Walked.{ones_are, next_bit, next_walk, may_look}
use Rattle.placing.specs.Place.{taken}
use Rattle.placing.proofs.Placing.{take_start, take_next}
use Rattle.placing.proofs.take_out.Invariants.{Took}
use Rattle.placing.proofs.take_out.Goals as goal

-- fewer bits are taken than there is room for
room : {mask u w message : List ℕ} {walk : Walk} {i : ℕ} → Took mask u w message walk i → i < 8 * length mask → 8 * length mask ≤ length w → walk.ones < length w
room {mask} {i = i} k l fits = omega (arith, ones_are mask i k.walked_to, ones_le mask i)

pub loop-bit-init : goal.loop-bit-init
unfolding walked
loop-bit-init c = record { walked_to = c.start-walk.ensures; same = refl; made = take_start _ _ _ }

pub look-seen-requires : goal.look-seen-requires
look-seen-requires c =
    let many = length-take-le (8 * length c.args.mask.now) c.args.u.now c.requires.0 in
    may_look c.args.mask.now c.loop-bit.bit-index c.loop-bit.invariant.walked_to (omega arith) (omega (arith, many))

pub take_bit-requires : goal.take_bit-requires
take_bit-requires c =
    let many = length-take-le (8 * length c.args.mask.now) c.args.u.now c.requires.0 in
    let k = c.loop-bit.invariant in
    omega (arith, c.ones-c.ensures, k.same, room k (omega (arith, many)) c.requires.1)

pub loop-bit-preserved : goal.loop-bit-preserved
loop-bit-preserved c =
    let mask = c.args.mask.now in
    let u = c.args.u.now in
    let w = c.args.message.now in
    let i = c.loop-bit.bit-index in
    let message = c.loop-bit.message in
    let k = c.loop-bit.invariant in
    let many = length-take-le (8 * length mask) u c.requires.0 in
    let inside : i < 8 * length mask = omega (arith, many, c.loop-bit-test.true) in
    record {
      walked_to = next_walk mask i k.walked_to c.look-seen.ensures.1;
      same = c.take_bit.auto.message ∙ k.same;
      made =
          c.take_bit.ensures
          ∙ ap (λ (t : ℕ). cond (eqb t 1) (set message c.ones-c.result (get_or (take (8 * length mask) u) i 0)) message) (c.look-seen.ensures.0 ∙ next_bit mask i k.walked_to)
          ∙ take_next mask u w message i c.ones-c.result _ k.made (c.ones-c.ensures ∙ ones_are mask i k.walked_to) (omega (arith, c.ones-c.ensures, room k inside c.requires.1)) (get_or-take (8 * length mask) u i 0 inside)
          ∙ ap (λ (n : ℕ). splice w 0 (taken mask u n)) (sym (add-one i));
    }

pub returns : goal.returns
returns c =
    let mask = c.args.mask.now in
    let l = c.loop-bit in
    let many = length-take-le (8 * length mask) c.args.u.now c.requires.0 in
    let done : l.bit-index ≡ 8 * length mask = omega (arith, many) in (
      c.looks.ensures ∙ ap (λ (w : Walk). w.looks) l.invariant.walked_to ∙ ap (λ (n : ℕ). (walked mask n).looks) done,
      l.invariant.made ∙ ap (λ (n : ℕ). splice c.args.message.now 0 (taken mask c.args.u.now n)) done,
    )
