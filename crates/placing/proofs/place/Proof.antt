-- `placing::place` meets its contract. The invariant: the first m bytes are placed, and their bits were looked at.
use mathlib.Core.Path.{◌≡◌, sym, ap, ◌∙◌, subst}
use mathlib.Core.List.{List}
use Prim.Native.Nat.{ℕ, ◌+◌, ◌-◌, ◌*◌, ◌/◌, ◌<◌}
use native.Mathlib.Omega.{arith}
use borrow.Author.Rules.{rules}
use lib.ListN.{length}
use Rattle.laws.specs.Table.{table}
use Rattle.laws.specs.Clauses.{splice}
use Rattle.laws.proofs.Filling.{Filling, filling_none, filling_more, filling_done}
use Rattle.bits.specs.Packing.{bytes_for, packed_byte, packed}
use Rattle.walk.specs.declared.Walk.{Walk}
use Rattle.walk.specs.Walked.{walked}
use Rattle.walk.proofs.Walked.{looks_are}
use Rattle.placing.specs.Place.{placed}
use Rattle.placing.proofs.Placing.{length-placed}
use Rattle.placing.proofs.place.Statement.{statement}
use Rattle.placing.proofs.place.Tie as tie

-- all bits, before they are packed
abbrev bits : List ℕ → List ℕ → List ℕ
bits mask message = placed mask message (8 * length mask)

abbrev invariant-loop : tie.invariant-loop-m
invariant-loop mask message u₀ walk₀ u walk =
    Filling (packed_byte (bits mask message)) 0 (length mask) u₀ u (walk.looks / 8) × (walk ≡ walked mask (8 * (walk.looks / 8)))

abbrev decreases-loop : tie.decreases-loop-m
decreases-loop mask message u₀ walk₀ u walk = 8 * length mask - walk.looks

loop-holds : tie.Need-loop-m-init invariant-loop decreases-loop
unfolding walked
loop-holds c =
    let mask = c.args.mask.now in
    let e = c.start-walk.ensures in
    let none : 0 ≡ c.start-walk.result.looks = sym (ap (λ (w : Walk). w.looks) e) in (
      subst (λ (n : ℕ). Filling (packed_byte (bits mask c.args.message.now)) 0 (length mask) c.args.u.now c.args.u.now (n / 8)) none filling_none,
      e ∙ ap (λ (n : ℕ). walked mask (8 * (n / 8))) none,
    )

module _ (l : tie.At-loop-m invariant-loop decreases-loop) where
  abbrev s : tie.Start invariant-loop decreases-loop
  s = l.before.before.before.before.before

  abbrev mask : List ℕ
  mask = s.args.mask.now

  -- the byte of the turn
  abbrev m : ℕ
  m = l.loop-m.walk.looks / 8

-- after the look at the counts of the turn
module _ (c : tie.After-looks-m invariant-loop decreases-loop) where
  abbrev l : tie.At-loop-m invariant-loop decreases-loop
  l = c.before.before.before

  same : c.looks-m.result / 8 ≡ m l
  same = ap (λ (n : ℕ). n / 8) c.looks-m.ensures

  inside : m l < length (mask l)
  inside = omega (arith, c.loop-m-test.true, c.looks.ensures)

-- after the byte, its walk has eight looks more
next : (c : tie.After-placed_byte-next invariant-loop decreases-loop) → c.placed_byte-next.result.walk.looks ≡ 8 * (m (l c.before) + 1)
next c = looks_are (mask (l c.before)) _ c.placed_byte-next.ensures.1 ∙ ap (λ (k : ℕ). 8 * (k + 1)) (same c.before)

loop-again : tie.Need-loop-m-preserved invariant-loop decreases-loop
loop-again c =
    let k = c.before.before in
    let a = l k in
    let e = c.placed_byte-next.ensures in
    let byte = packed_byte (bits (mask a) (s a).args.message.now) in
    let more : m a + 1 ≡ c.placed_byte-next.result.walk.looks / 8 = omega (arith, next c.before) in (
      subst (Filling byte 0 (length (mask a)) (s a).args.u.now _) more (filling_more a.loop-m.invariant.0 _ _ (inside k) (omega (arith, same k)) (e.0 ∙ ap byte (same k))),
      e.1 ∙ ap (λ (k : ℕ). walked (mask a) (8 * k)) (ap (λ (k : ℕ). k + 1) (same k) ∙ more),
    )

returns : tie.Need-returns invariant-loop decreases-loop
unfolding packed
returns c =
    let message = (s c.before.before.before).args.message.now in
    let all : m c.before.before.before ≡ length (mask c.before.before.before) = omega (arith, c.loop-m.invariant.0.reached, c.looks.ensures) in
    let size : length (mask c.before.before.before) ≡ bytes_for (length (bits (mask c.before.before.before) message)) = omega (arith, length-placed (mask c.before.before.before) message (8 * length (mask c.before.before.before))) in (
      c.looks-2.ensures ∙ ap (λ (w : Walk). w.looks) c.loop-m.invariant.1 ∙ ap (λ (m : ℕ). (walked (mask c.before.before.before) (8 * m)).looks) all,
      filling_done c.loop-m.invariant.0 (omega (arith, all)) (omega (arith, (s c.before.before.before).requires.1))
          ∙ ap (λ (k : ℕ). splice (s c.before.before.before).args.u.now 0 (table (packed_byte (bits (mask c.before.before.before) message)) k)) size,
    )

pub place_spec : {M : Type 1} → statement M
place_spec =
    tie.close
    (tie.spec
    invariant-loop
    decreases-loop
    (λ c κs. search rules)
    loop-holds
    (λ c κs. search rules)
    (λ c. search rules)
    (λ c κs. search rules)
    (λ c κs. let a = l c in ((s a).requires.0, omega (arith, same c, inside c), a.loop-m.invariant.1 ∙ ap (λ (k : ℕ). walked (mask a) (8 * k)) (sym (same c))))
    (λ c. let a = l c.before in omega (arith, same c.before, inside c.before, a.loop-m.invariant.0.same, (s a).requires.1))
    (λ c. omega (arith, next c.before, inside c.before.before))
    loop-again
    (λ c κs. search rules)
    (λ c. c.loop-m.invariant.0.same)
    returns)
