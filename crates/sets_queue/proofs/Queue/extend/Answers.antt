use Rattle.std.proofs.Common.{arith, ◌≡◌, ◌+◌, ◌*◌, ℕ, List, ◌++◌, length, map, ap, sym, subst, ◌∙◌}
use Rattle.decoder.specs.Candidate.{doubtful, extensions}
use Rattle.decoder.proofs.Metric.{doubtful-most}
use Rattle.sets_queue.specs.declared.Stem.{Stem}
use Rattle.sets_queue.specs.Clauses.{set_key, StemFits, keys_with, with_keys}
use Rattle.sets_queue.proofs.Walking.{doubtful-more}
use Rattle.sets_queue.proofs.Extending.{with-none, with_more, extension_keys, extensions-none, stem-fits}
use Rattle.sets_queue.proofs.Queue.extend.Goals as goal

pub loop-j-init : goal.loop-j-init
loop-j-init c =
    let x = c.args in
    let from = ap (λ (s : Stem). s.from) c.stem_of-stem.ensures in
    record {
      counted = c.doubtful-small.ensures;
      inserted = rw (extensions-none x.leaves.mask.now x.leaves.values.now x.set.now c.stem_of-stem.result.from (omega (arith, from))) (sym (with-none c.replace-queue.result));
    }

pub overflow_add-small : goal.overflow_add-small
overflow_add-small c =
    let x = c.args in
    omega (arith, doubtful-more x.leaves.mask.now x.leaves.values.now c.loop-j.j, doubtful-most x.leaves.mask.now x.leaves.values.now (c.loop-j.j + 1), x.leaves.small.fits)

pub append-requires : goal.append-requires
append-requires c =
    let x = c.args in (
      omega arith,
      subst StemFits (sym c.stem_of-stem.ensures) (stem-fits x.leaves.small x.set.now c.requires),
      omega (arith, doubtful-more x.leaves.mask.now x.leaves.values.now c.loop-j.j, doubtful-most x.leaves.mask.now x.leaves.values.now (c.loop-j.j + 1), x.leaves.small.fits),
    )

pub loop-j-preserved : goal.loop-j-preserved
loop-j-preserved c =
    let x = c.args in
    let from = ap (λ (s : Stem). s.from) c.stem_of-stem.ensures in
    let j = c.loop-j.j in
    let small : ℕ = c.loop-j.small + c.doubt-small.result in
    let e : small ≡ doubtful x.leaves.mask.now x.leaves.values.now (j + 1) = omega (arith, doubtful-more x.leaves.mask.now x.leaves.values.now j) in
    record {
      counted = e;
      inserted =
          c.append.ensures
          ∙ ap (with_keys _) c.loop-j.invariant.inserted
          ∙ sym (with_more (map set_key (extensions x.leaves.mask.now x.leaves.values.now x.set.now j)) _ c.replace-queue.result)
          ∙ ap (λ (new : List ℕ). with_keys new c.replace-queue.result) (ap (λ (s : Stem). map set_key (extensions x.leaves.mask.now x.leaves.values.now x.set.now j) ++ keys_with x.leaves.mask.now x.leaves.values.now s small j) c.stem_of-stem.ensures
          ∙ sym (extension_keys x.leaves.mask.now x.leaves.values.now x.set.now j small c.requires.few (omega (arith, from)) e));
    }

pub returns : goal.returns
returns c =
    let x = c.args in
    let from = ap (λ (s : Stem). s.from) c.stem_of-stem.ensures in
    let e : c.loop-j.j ≡ 8 * length x.leaves.mask.now = omega (arith, from, c.requires.past) in
    c.loop-j.invariant.inserted
    ∙ ap (λ (n : ℕ). with_keys (map set_key (extensions x.leaves.mask.now x.leaves.values.now x.set.now n)) c.replace-queue.result) e
    ∙ ap (with_keys _) c.replace-queue.ensures.value
