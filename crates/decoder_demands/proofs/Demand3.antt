-- Demand 3: the run of the decoder by single flips, if the one call repeats each trial from the root and the other resumes past its flipped index.
use mathlib.Core.Path.{◌≡◌, refl, sym, ap, ◌∙◌, subst}
use mathlib.Core.Logic.{inl, inr, ⊎_elim}
use mathlib.Core.List.{List, [], ◌∷◌, map, map-map, map-id, Forall₂}
use Prim.Native.Nat.{ℕ, suc, ◌-◌, ◌≤◌}
use native.Mathlib.Omega.{arith}
use lib.IntN.{ℤ}
use lib.ListN.{length, take, length-map}
use lib.Seq.{take-take}
use Rattle.laws.proofs.Segment.{take-map}
use Rattle.code.specs.declared.Code.{Code}
use Rattle.code.specs.Code.{code_length}
use Rattle.code.specs.Description.{mask_of}
use Rattle.code.proofs.Facts.{described}
use Rattle.channel.specs.Channel.{channel_values}
use Rattle.flip_trial.specs.declared.Restart.TheVariants.{Root, AfterFlip}
use Rattle.flip_trial.specs.Trial.{lowest, resume_at}
use Rattle.flip_trial.specs.FirstAfter.{FirstAfter}
use Rattle.flip_trial.proofs.Flips.{lowest-below}
use Rattle.flip_trial.proofs.Restartable.{resume_at_lem}
use Rattle.flip_run.specs.Trials.{flip_order}
use Rattle.decoder.specs.Decoder.{single, flips_of}
use Rattle.decoder.proofs.Decoder.{spelt_out}
use Rattle.decoder_demands.specs.Demand3.{Demand3}
use Rattle.decoder_demands.proofs.Trials.{FlipsEach, flips_take}
use Rattle.decoder_demands.proofs.Flips.{flips_each, length-singles}
use Rattle.decoder_demands.proofs.Agreement.{run_of}

-- the indices that are flipped in the trials made
flipped_are : (mask : List ℕ) (c : Code) (v : List ℤ) (made limit : ℕ) → made ≤ limit → map lowest (take (made - 1) (flips_of (single limit) mask c v)) ≡ take (made - 1) (flip_order mask c v)
flipped_are mask c v made limit l =
    let alone : ℕ → List ℕ = λ i. i ∷ [] in
    let order : List ℕ = flip_order mask c v in
    ap (map lowest) (take-take (made - 1) (limit - 1) (map alone order) (omega arith) ∙ take-map alone (made - 1) order)
    ∙ map-map lowest alone (take (made - 1) order) ∙ map-id (take (made - 1) order)

-- q is what demand 3 says
first-after : (mask : List ℕ) (c : Code) (sets : List (List ℕ)) → FlipsEach mask c sets → Forall₂ (FirstAfter mask (code_length c)) (map lowest sets) (map (resume_at mask (code_length c)) (map lowest sets))
first-after mask c [] p = Forall₂.nil
first-after mask c (is ∷ sets) p =
    Forall₂.cons (resume_at_lem mask (code_length c) (lowest is) (lowest-below (p 0 (omega arith)))) (first-after mask c sets (λ a l. p (suc a) (omega arith)))

pub demand_3 : Demand3
demand_3 d c channel limit output output' w w' =
    let mask : List ℕ = mask_of d in
    let v : List ℤ = channel_values channel in
    let x = run_of (single limit) d c channel output w in
    let on = (spelt_out (single limit) c channel output).1 w.fine in
    let size : length output' ≡ length output = ((spelt_out (single limit) c channel output').1 w'.fine).output_size ∙ sym on.output_size in
    let sets : List (List ℕ) = take (x.made - 1) (flips_of (single limit) mask c v) in
    let is : List ℕ = map lowest sets in
    record {
      made = x.made;
      full = x.steps Root;
      restarted = x.steps AfterFlip;
      most = x.most;
      answers =
          ⊎_elim (λ a. inl (a.0, a.1 Root output refl, a.1 AfterFlip output' size))
          (λ a. inr (a.0 ∙ length-singles mask c v (described d c w.described).coded limit on.allowed.0 on.allowed.1, a.2 Root output refl, a.2 AfterFlip output' size)) x.answers;
      full_steps = x.full_steps;
      qs = map (resume_at mask (code_length c)) is;
      each = omega (arith, x.each, length-map is (resume_at mask (code_length c)));
      exceeds = x.exceeds AfterFlip;
      q_is = subst (λ (js : List ℕ). Forall₂ (FirstAfter mask (code_length c)) js (map (resume_at mask (code_length c)) is)) (flipped_are mask c v x.made limit x.most)
          (first-after mask c sets (flips_take mask c (x.made - 1) (flips_of (single limit) mask c v) (flips_each mask c v (single limit))));
    }
