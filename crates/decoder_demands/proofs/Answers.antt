-- What the answer to a run of trials says of them.
use mathlib.Core.Path.{◌≡◌, sym, ap, ap₂, ◌∙◌, subst}
use mathlib.Core.Bool.{Bool}
use mathlib.Core.List.{List}
use Prim.Native.Nat.{ℕ}
use native.Mathlib.Omega.{arith}
use lib.ListN.{take, drop, take-append-drop}
use Rattle.bits.specs.Packing.{packed}
use Rattle.code.specs.declared.Code.{Code}
use Rattle.pass_tree.specs.Node.{Out}
use Rattle.flip_trial.specs.Trial.{message_in, trial_passes}
use Rattle.flip_run.specs.Trials.{Verdict, passed, failed, run, answer_of, tally}
use Rattle.flip_run.proofs.Tallies.{tally_in}
use Rattle.decoder_demands.specs.Claims.{PassedAt, AllFailed, Ends}
use Rattle.decoder_demands.proofs.Run.{run_ends, run_more}
use Rattle.std.specs.Prelude.{Err, Ok}
use Rattle.flip_run.specs.declared.DecodingError.TheVariants.{NonePassed}
use Rattle.flip_run.specs.Clauses.{Decoded}

module _ (mask : List ℕ) (c : Code) (output : List ℕ) where
  -- the verdict, by an answer that accepts
  accepted-by : (x : Verdict) (trial steps : ℕ) (bytes : List ℕ) → answer_of mask c output x ≡ (Ok (tally trial steps), bytes) → (bits : List ℕ) × (x ≡ passed trial steps bits) × (bytes ≡ packed (take c.k (message_in mask c bits)))
  accepted-by (passed t s bits) trial steps bytes q =
      let a : Ok (tally t s) ≡ Ok (tally trial steps) = ap (λ (z : Decoded × List ℕ). z.0) q in
      (bits, ap₂ (λ (m n : ℕ). passed m n bits) (ap (λ (x : Decoded). (tally_in x).trials) a) (ap (λ (x : Decoded). (tally_in x).steps) a), sym (ap (λ (z : Decoded × List ℕ). z.1) q))
  accepted-by (failed t s) trial steps bytes q =
      let a : Err (NonePassed (tally t s)) ≡ Ok (tally trial steps) = ap (λ (z : Decoded × List ℕ). z.0) q in
      let z : ◌≡◌ {A = ℕ} 0 1 = cc in
      absurd (omega arith)

  -- and by refusal 16
  failed_by : (x : Verdict) (made steps : ℕ) (bytes : List ℕ) → answer_of mask c output x ≡ (Err (NonePassed (tally made steps)), bytes) → (x ≡ failed made steps) × (bytes ≡ output)
  failed_by (passed t s bits) made steps bytes q =
      let a : Ok (tally t s) ≡ Err (NonePassed (tally made steps)) = ap (λ (z : Decoded × List ℕ). z.0) q in
      let z : ◌≡◌ {A = ℕ} 0 1 = cc in
      absurd (omega arith)
  failed_by (failed t s) made steps bytes q =
      let a : Err (NonePassed (tally t s)) ≡ Err (NonePassed (tally made steps)) = ap (λ (z : Decoded × List ℕ). z.0) q in
      (ap₂ failed (ap (λ (x : Decoded). (tally_in x).trials) a) (ap (λ (x : Decoded). (tally_in x).steps) a), sym (ap (λ (z : Decoded × List ℕ). z.1) q))

  abbrev ok : List ℕ → Bool
  ok = trial_passes mask c

  -- the trial that a run accepts, and the bytes written
  pub run-accepts : (os : List Out) (trial steps : ℕ) (bytes : List ℕ) → answer_of mask c output (run ok 0 0 os) ≡ (Ok (tally trial steps), bytes) → (bits : List ℕ) × PassedAt ok os trial steps bits × (bytes ≡ packed (take c.k (message_in mask c bits)))
  run-accepts os trial steps bytes e =
      let x = accepted-by (run ok 0 0 os) trial steps bytes e in
      (x.0, subst (Ends ok os) x.1 (run_ends ok os), x.2)

  -- a run that accepts none
  pub run_fails : (os : List Out) (made steps : ℕ) (bytes : List ℕ) → answer_of mask c output (run ok 0 0 os) ≡ (Err (NonePassed (tally made steps)), bytes) → AllFailed ok os made steps × (bytes ≡ output)
  run_fails os made steps bytes e =
      let x = failed_by (run ok 0 0 os) made steps bytes e in
      (subst (Ends ok os) x.0 (run_ends ok os), x.1)

  -- what the first n of some trials accept, all of them accept
  pub accepts-more : (output' : List ℕ) (os : List Out) (n trial steps : ℕ) (bytes : List ℕ) → answer_of mask c output (run ok 0 0 (take n os)) ≡ (Ok (tally trial steps), bytes) → answer_of mask c output' (run ok 0 0 os) ≡ (Ok (tally trial steps), bytes)
  accepts-more output' os n trial steps bytes e =
      let x = accepted-by (run ok 0 0 (take n os)) trial steps bytes e in
      ap (λ (xs : List Out). answer_of mask c output' (run ok 0 0 xs)) (sym (take-append-drop n os))
      ∙ ap (answer_of mask c output') (run_more ok trial steps x.0 0 0 (take n os) (drop n os) x.1)
      ∙ ap (λ (y : List ℕ). (Ok (tally trial steps), y)) (sym x.2)
