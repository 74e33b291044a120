-- Document 01, "Flip decoding, full and restarted": demand 3's "q is the first information index after that trial's flipped one, or N if
-- none". `resume_at_lem` of proofs/Restartable.antt proves it of `resume_at`.
use Rattle.std.specs.Prelude.{◌≡◌, ◌⊎◌, List, ℕ, ◌<◌, ◌≤◌}
use Rattle.bits.specs.Mask.{mask_bit}

-- the q of a trial whose flipped index is i, of N indices
pub record FirstAfter (mask : List ℕ) (N i q : ℕ) : Type 0 where
  -- q lies after i
  pub above : i < q
  -- q is at most N
  pub most : q ≤ N
  -- no information index lies between
  pub between : (j : ℕ) → i < j → j < q → mask_bit mask j ≡ 0
  -- q is N or an information index
  pub ends : (q ≡ N) ⊎ (mask_bit mask q ≡ 1)
