-- What `?` passes on of a call that was refused.
use Rattle.std.proofs.Common.{◌≡◌, ◌∙◌, ap, Result, Err, IsErr, IsErrAnd}
use Rattle.std.proofs.lemmas.Result.{err_from_is_err_and}

-- the refusal itself
pub passed_on : {A E : Type 0} (r : Result A E) (x : E) → IsErr r × IsErrAnd r (λ e. e ≡ x) → r ≡ Err x
passed_on r x p = let q = err_from_is_err_and r p.1 in q.1 ∙ ap Err q.2
