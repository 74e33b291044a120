-- The least key is the first.
use Rattle.std.proofs.Common.{arith, ◌≡◌, ◌∙◌, ◌∷◌, ◌-◌, ap, subst, sym, length, length-take, length-drop, List, ℕ, take, drop, get_or}
use Rattle.flip_order.proofs.Pairwise.{pairwise_tail}
use Rattle.sets_queue.specs.Clauses.{Untried}
use Rattle.sets_queue.proofs.Inserting.{Ordered}
use Rattle.sets_queue.proofs.InMemory.{first_off}
use Rattle.sets_queue.proofs.Queue.pop_first.Goals as goal
use Rattle.sets_queue.proofs.Queue.pop_first.Goals.{After-take-places}

module _ (c : After-take-places) where
  abbrev places : List ℕ
  places = c.take-places.result.now

  same : places ≡ c.self.inside.places.now
  same = ap (λ r. r.now) c.take-places.ensures.value

  keys : take c.self.inside.len c.self.inside.places.now ≡ get_or places 0 0 ∷ take (c.self.inside.len - 1) (take (length places - 1) (drop 1 places))
  keys = ap (take c.self.inside.len) (sym same) ∙ first_off c.self.inside.len places (omega arith) (omega (arith, ap length same, c.self.invariant.len_most))

  left : length (take (length places - 1) (drop 1 places)) ≡ length c.self.inside.places.now - 1
  left = omega (arith, ap length same, length-take (length places - 1) (drop 1 places), length-drop 1 places)

pub invariant_of-self : goal.invariant_of-self
invariant_of-self c =
    let t = (goal.at.invariant_of-self c).After-take-places in
    record {
      len_most = omega (arith, c.self.invariant.len_most, left t);
      ordered = pairwise_tail (subst Ordered (keys t) c.self.invariant.ordered);
    }

pub returns : goal.returns
returns c =
    let t = (goal.at.returns c).After-take-places in
    (ap (λ (u : Untried). u.keys) (sym c.self.view_is) ∙ keys t, omega (arith, ap (λ (u : Untried). u.room) c.self.view_is, c.self.invariant.len_most, left t))
