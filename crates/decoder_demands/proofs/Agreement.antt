-- The runs of a decoder at every restart: one refusal, or one answer with the exact steps of each.
use mathlib.Core.Path.{◌≡◌, refl, sym, ap, ◌∙◌}
use mathlib.Core.Logic.{inl, inr, ⊎_elim}
use mathlib.Core.List.{List, [], ◌∷◌, ◌++◌, map}
use Prim.Native.Nat.{ℕ, ◌-◌, ◌*◌, ◌≤◌}
use native.Mathlib.Omega.{arith}
use lib.IntN.{ℤ}
use lib.ListN.{length, take, replicate, length-map, length-replicate}
use Rattle.refusal.specs.Judge.{differs, judge}
use Rattle.bits.specs.Packing.{bytes_for}
use Rattle.code.specs.declared.Code.{Code}
use Rattle.code.specs.Code.{code_length}
use Rattle.code.specs.Description.{mask_of, describe}
use Rattle.code.specs.Claims.{Coded}
use Rattle.code.proofs.Facts.{described}
use Rattle.channel.specs.Channel.{channel_values, channel_refusals}
use Rattle.pass_tree.proofs.Steps.{skipped-none}
use Rattle.flip_trial.specs.declared.Restart.TheVariants.{Root, Half, AfterFlip}
use Rattle.flip_trial.specs.Trial.{lowest}
use Rattle.decoder.specs.Decoder.{Decoder, own_refusals, refusals_of, WellFormed, flips_of, decoded_as}
use Rattle.decoder.specs.Claims.{Allowed}
use Rattle.decoder.proofs.Decoder.{fine-answer, refused_answer, description_refused, under-code, spelt_out}
use Rattle.decoder_demands.specs.Agreement.{limit_of, SameRun, Agree, Agreement}
use Rattle.decoder_demands.specs.Claims.{skipped_by, EveryRestart}
use Rattle.decoder_demands.proofs.Flips.{flips_each, flips_most, flips_all}
use Rattle.decoder_demands.proofs.Compare.{every-restart}
use Rattle.decoder_demands.proofs.HalfSteps.{skipped-by, half_saves_less}
use Rattle.std.specs.Prelude.{Err, Ok}
use Rattle.refusal.specs.declared.Refusal.TheVariants.{OutputLength}
use Rattle.refusal.specs.Clauses.{Judgement}
use Rattle.code.specs.Clauses.{Description}

-- from the root nothing is skipped
skipped-root : (mask : List ℕ) (c : Code) (is : List ℕ) → skipped_by Root mask c is ≡ 0
skipped-root mask c [] = refl
skipped-root mask c (i ∷ is) = omega (arith, skipped-none c.n, skipped-root mask c is)

-- no refusal applies to outputs of this size
module _ (p : Decoder) (d : List ℕ) (c : Code) (channel : List ℕ) (size : ℕ) (code : describe d ≡ Ok c)
    (fine : (o : List ℕ) → length o ≡ size → judge (refusals_of p c channel o) ≡ Ok tt) where
  abbrev mask : List ℕ
  mask = mask_of d

  abbrev v : List ℤ
  v = channel_values channel

  coded : Coded mask c
  coded = (described d c code).coded

  allowed : Allowed p c
  allowed = ((spelt_out p c channel (replicate size 0)).1 (fine (replicate size 0) (length-replicate size 0))).allowed

  pub every : EveryRestart mask c (flips_of p mask c v) (λ o. length o ≡ size) (λ r o. decoded_as p r d channel o)
  every =
      every-restart mask c v (flips_of p mask c v) (flips_each mask c v p)
      (λ r o l. under-code p r d channel o c code ∙ fine-answer p r mask c channel o (fine o l))

  pub made_most : every.made ≤ limit_of p
  made_most = omega (arith, every.most, flips_most mask c v coded p allowed)

  same-run : SameRun p d c channel size
  same-run =
      let x = every in
      let is : List ℕ = map lowest (take (x.made - 1) (flips_of p mask c v)) in
      let all : x.steps Root ≡ x.made * c.n * code_length c = omega (arith, x.counted Root, skipped-root mask c is) in
      let above : 1 ≤ c.n = omega (arith, coded.n_least) in
      record {
        made = x.made;
        steps = x.steps;
        most = made_most;
        each = omega (arith, length-map (take (x.made - 1) (flips_of p mask c v)) lowest, x.each);
        answers =
            ⊎_elim inl (λ a. inr (a.0, ⊎_elim (λ e. inl (a.0 ∙ e)) inr (flips_all mask c v coded p allowed), a.1)) x.answers;
        full_steps = all;
        exceeds = λ r. omega (arith, all, x.counted r, skipped-by r mask c is);
        restarted_least = omega (arith, half_saves_less mask c above is, x.counted Half, x.counted AfterFlip);
        full_most = omega (arith, all, x.counted Half);
      }

-- the refusals read of an output its size alone
alike : (p : Decoder) (c : Code) (channel o o' : List ℕ) → length o ≡ length o' → judge (refusals_of p c channel o) ≡ judge (refusals_of p c channel o')
alike p c channel o o' l = ap (λ (m : ℕ). judge (channel_refusals c channel ++ (own_refusals p c ++ ((differs m (bytes_for c.k), OutputLength) ∷ [])))) l

-- a well-formed call is a run of trials, with any output of that size
pub run_of : (p : Decoder) (d : List ℕ) (c : Code) (channel output : List ℕ) → WellFormed p d c channel output → SameRun p d c channel (length output)
run_of p d c channel output w = same-run p d c channel (length output) w.described (λ o l. alike p c channel o output l ∙ w.fine)

pub agreement : Agreement
agreement p d channel size = go (describe d) refl
  where
    -- any output of that size is judged as zeros are
    sized : (c : Code) (o : List ℕ) → length o ≡ size → judge (refusals_of p c channel o) ≡ judge (refusals_of p c channel (replicate size 0))
    sized c o l = alike p c channel o (replicate size 0) (l ∙ sym (length-replicate size 0))

    under : (c : Code) → describe d ≡ Ok c → (j : Judgement) → judge (refusals_of p c channel (replicate size 0)) ≡ j → Agree p d channel size
    under c e (Ok tt) h = inr (c, e, same-run p d c channel size e (λ o l. sized c o l ∙ h))
    under c e (Err r) h = inl (r, λ restart o l. under-code p restart d channel o c e ∙ refused_answer p restart (mask_of d) c channel o r (sized c o l ∙ h))

    go : (x : Description) → describe d ≡ x → Agree p d channel size
    go (Ok c) e = under c e (judge (refusals_of p c channel (replicate size 0))) refl
    go (Err r) e = inl (r, λ restart o l. description_refused p restart d channel o r e)
