-- Storing at the indices that are left gives what storing at all of them gives.
use Rattle.std.proofs.Common.{◌≡◌, drop}
use Rattle.flip_trial.specs.Clauses.{set_all}
use Rattle.flip_trial.proofs.set_rules.Given as goal

abbrev pub invariant-loop-i : goal.invariant-loop-i
invariant-loop-i l = set_all l.rules (drop l.i-index l.flips) l.rule ≡ set_all l.initial.rules l.flips l.rule
