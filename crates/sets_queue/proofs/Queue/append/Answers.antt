-- A frozen index appends nothing.
use Rattle.std.proofs.Common.{sym, ap, ◌∙◌, List, ℕ}
use Rattle.sets_queue.specs.Clauses.{with_keys}
use Rattle.sets_queue.proofs.Extending.{with-none, keys_frozen}
use Rattle.sets_queue.proofs.Queue.append.Goals as goal

pub returns-else-mask_bit-eq1 : goal.returns-else-mask_bit-eq1
returns-else-mask_bit-eq1 c =
    let x = c.args in
    sym (ap (λ (new : List ℕ). with_keys new x.self.now) (keys_frozen x.leaves.now.mask.now x.leaves.now.values.now x.stem x.small x.j (λ e. c.if-mask_bit-eq1.false (c.mask_bit.ensures ∙ e))) ∙ with-none x.self.now)
