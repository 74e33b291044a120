-- Document 01, "Flip decoding, full and restarted": one trial, and when it passes.
use Rattle.std.specs.Prelude.{Bool, false, ◌||◌, cond, List, [], ◌∷◌, ◌++◌, ℕ, ◌+◌, ◌-◌, ◌/◌, leb, eqb, ℤ, get_or, take, replicate}
use Rattle.laws.specs.First.{first_where}
use Rattle.bits.specs.Mask.{mask_bit}
use Rattle.code.specs.declared.Code.{Code}
use Rattle.code.specs.Code.{code_length, divisor, start_bits}
use Rattle.crc.specs.Check.{passes}
use Rattle.placing.specs.Place.{taken}
use Rattle.values.specs.Values.{Rule, opposite, mask_rule}
use Rattle.pass_tree.specs.Node.{Out, node}
use Rattle.flip_trial.specs.declared.Restart.{Restart}
use Rattle.flip_trial.specs.declared.Restart.TheVariants.{Root, Half, AfterFlip}

-- trial 1: a plain pass
abbrev pub first_trial : List ℕ → Code → List ℤ → Out
first_trial mask c v = node c.n [] (mask_rule mask) v

-- whether j is among the indices
abbrev pub member : ℕ → List ℕ → Bool
member j [] = false
member j (i ∷ is) = eqb j i || member j is

-- a later trial flips a list of indices, ascending: the opposite decision at each, the usual one elsewhere
abbrev pub flip_rule : List ℕ → List ℕ → ℕ → Rule
flip_rule mask is j = cond (member j is) opposite (mask_rule mask j)

-- the lowest of ascending indices, which is the first; 0 if there is none
abbrev pub lowest : List ℕ → ℕ
lowest [] = 0
lowest (i ∷ is) = i

-- how a trial whose lowest flipped index is i begins, up to q: trial 1's bits before i, its opposite at i, zeros
abbrev pub forced_prefix : List ℕ → ℕ → ℕ → List ℕ
forced_prefix bits i q = take q (take i bits ++ ((1 - get_or bits i 0) ∷ replicate (q - (i + 1)) 0))

-- the first information index above i, or N, of N indices
abbrev pub resume_at : List ℕ → ℕ → ℕ → ℕ
resume_at mask N i = i + 1 + first_where (λ k. eqb (mask_bit mask (i + 1 + k)) 1) (N - (i + 1))

-- the index at which a later trial resumes, i being its lowest flipped index: 0 in full decoding; in half restart (document 02, request 2.4) N/2 if i is
-- N/2 or above, otherwise 0; in restarted decoding the first information index above i
abbrev pub restart_at : Restart → List ℕ → ℕ → ℕ → ℕ
restart_at Root mask N i = 0
restart_at Half mask N i = cond (leb (N / 2) i) (N / 2) 0
restart_at AfterFlip mask N i = resume_at mask N i

-- a later trial that resumes at the index of its restart
abbrev pub later_trial : Restart → List ℕ → Code → List ℤ → List ℕ → Out
later_trial restart mask c v is =
    node c.n (forced_prefix (first_trial mask c v).bits (lowest is) (restart_at restart mask (code_length c) (lowest is))) (flip_rule mask is) v

-- payload and check of a trial's bits: those at the information indices
abbrev pub message_in : List ℕ → Code → List ℕ → List ℕ
message_in mask c bits = taken mask bits (code_length c)

-- a trial passes if the check of its payload, with the code's start value, equals its check bits
abbrev pub trial_passes : List ℕ → Code → List ℕ → Bool
trial_passes mask c bits = passes (divisor c) (start_bits c) c.k (message_in mask c bits)
