-- The answer to a run of trials.
use mathlib.Core.Path.{◌≡◌, refl}
use mathlib.Core.Bool.{true}
use mathlib.Core.List.{List}
use Prim.Native.Nat.{ℕ}
use Rattle.code.specs.declared.Code.{Code}
use Rattle.flip_run.specs.Trials.{Verdict, passed, failed, answer_of}
use Rattle.flip_run.specs.Claims.{of_run}

-- it is no refusal before 16
pub answer_of-run : (mask : List ℕ) (c : Code) (output : List ℕ) (v : Verdict) → of_run (answer_of mask c output v).0 ≡ true
answer_of-run mask c output (passed trial steps bits) = refl
answer_of-run mask c output (failed made steps) = refl
