-- How a queue's keys stand in its memory.
use Rattle.std.specs.Prelude.{◌≤◌, length, take}
use Rattle.flip_order.specs.Claims.{Pairwise}
use Rattle.sets_queue.specs.Clauses.{Untried}
use Rattle.sets_queue.specs.declared.Queue.TheInside.{Inside}

abbrev pub untried : Inside → Untried
untried q = record { keys = take q.len q.places.now; room = length q.places.now }

-- each key has a place, in order
pub record Places (q : Inside) : Type 0 where
  pub len_most : q.len ≤ length q.places.now
  pub ordered : Pairwise (λ a b. a ≤ b) (take q.len q.places.now)
