-- The key is put in its place, or turned away from a full queue.
use Rattle.std.proofs.Common.{arith, ◌≡◌, ◌∙◌, ◌∷◌, [], ◌-◌, ap, subst, sym, List, ℕ, take, ltb, length, length-set, set, ◌+◌, length-take, refl, ◌≤◌}
use Rattle.std.specs.List.{CopiedTo}
use Rattle.laws.specs.Insert.{insert_by}
use Rattle.sets_queue.specs.Clauses.{Place, Untried, with_keys}
use Rattle.sets_queue.specs.declared.Queue.TheInside.{Inside}
use Rattle.sets_queue.proofs.Inserting.{Ordered, insert_one, insert_ordered, take-ordered, fewer-ordered}
use Rattle.sets_queue.proofs.InMemory.{turned_away, put}
use Rattle.sets_queue.proofs.Queue.insert.Goals as goal
use Rattle.sets_queue.proofs.Queue.insert.Goals.{After-place_of-at, After-copy_within}

-- the key's place
module _ (c : After-place_of-at) where
  abbrev q : Inside
  q = c.self.inside

  abbrev ks : List ℕ
  ks = take q.len q.places.now

  place : Place c.args.key ks c.place_of-at.result
  place = subst (λ (u : Untried). Place c.args.key u.keys c.place_of-at.result) (sym c.self.view_is) c.place_of-at.ensures

  place_most : c.place_of-at.result ≤ q.len
  place_most = omega (arith, place.most, length-take q.len q.places.now)

  -- the keys after it was inserted
  inserted : {keys : List ℕ} {room : ℕ} → room ≡ length q.places.now → keys ≡ take (length q.places.now) (insert_by ltb c.args.key ks) → record { keys = keys; room = room } ≡ with_keys (c.args.key ∷ []) c.args.self.now
  inserted {keys} {room} e f =
      ap (λ (m : ℕ). record { keys = keys; room = m }) e
      ∙ ap (λ (ks : List ℕ). record { keys = ks; room = length q.places.now }) (f ∙ sym (insert_one (length q.places.now) c.args.key ks))
      ∙ ap (with_keys (c.args.key ∷ [])) c.self.view_is

pub returns-then-at-self : goal.returns-then-at-self
returns-then-at-self c =
    let t = (goal.at.returns-then-at-self c).After-place_of-at in
    let q = c.self.inside in
    let full : length q.places.now ≡ length (ks t) = omega (arith, place_most t, c.self.invariant.len_most, length-take q.len q.places.now) in
    sym c.self.view_is
    ∙ inserted t refl (sym (ap (λ (m : ℕ). take m (insert_by ltb c.args.key (ks t))) full ∙ turned_away c.self.invariant.ordered (place t) (omega arith)))

-- what the queue holds then
module _ (c : After-copy_within) (place : Place c.args.key (take c.self.inside.len c.self.inside.places.now) c.place_of-at.result) where
  abbrev new : List ℕ
  new = set c.copy_within.new.self c.place_of-at.result c.args.key

  placed : take (c.min-last.result + 1) new ≡ take (length c.self.inside.places.now) (insert_by ltb c.args.key (take c.self.inside.len c.self.inside.places.now))
  placed =
      let q = c.self.inside in
      let p = c.self.invariant in
      let copied = c.copy_within.ensures.by_index in
      let up = subst (λ (n : ℕ). CopiedTo q.places.now c.copy_within.new.self c.place_of-at.result (c.place_of-at.result + 1) (n - c.place_of-at.result)) c.min-last.ensures copied.0 in
      ap (λ (n : ℕ). take (n + 1) new) c.min-last.ensures
      ∙ put c.args.key c.place_of-at.result q.len q.places.now c.copy_within.new.self p.len_most p.ordered place (omega (arith, place.most, length-take q.len q.places.now, p.len_most)) c.copy_within.ensures.len copied.1 up

pub invariant_of-self : goal.invariant_of-self
invariant_of-self c =
    let t = (goal.at.invariant_of-self c).After-place_of-at in
    record {
      len_most = omega (arith, place_most t, length-set c.copy_within.new.self c.place_of-at.result c.args.key, c.copy_within.ensures.len);
      ordered = fewer-ordered _ (c.min-last.result + 1) _ (omega arith)
          (subst Ordered (sym (placed ((goal.at.invariant_of-self c).After-copy_within) (place t))) (take-ordered _ _ (insert_ordered c.args.key _ c.self.invariant.ordered)));
    }

pub returns : goal.returns
returns c =
    let h = goal.at.returns c in
    inserted h.After-place_of-at (length-set c.copy_within.new.self c.place_of-at.result c.args.key ∙ c.copy_within.ensures.len) (placed h.After-copy_within (place h.After-place_of-at))
