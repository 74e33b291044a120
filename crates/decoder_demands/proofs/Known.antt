-- Runs of which one answer is known: from what full decoding answers follows what every restart does.
use mathlib.Core.Path.{◌≡◌, refl, sym, ap, ap₂, ◌∙◌, subst}
use mathlib.Core.Logic.{◌⊎◌, inl, inr, ⊎_elim}
use mathlib.Core.List.{List, [], ◌∷◌}
use Prim.Native.Nat.{ℕ, ◌+◌, ◌<◌}
use native.Mathlib.Omega.{arith}
use lib.ListN.{length}
use Rattle.code.specs.declared.Code.{Code}
use Rattle.code.specs.Description.{mask_of, describe}
use Rattle.channel.specs.Channel.{channel_values}
use Rattle.flip_trial.specs.declared.Restart.{Restart}
use Rattle.flip_trial.specs.declared.Restart.TheVariants.{Root}
use Rattle.decoder.specs.Decoder.{Decoder, flips_of, decoded_as}
use Rattle.decoder_demands.specs.Agreement.{limit_of, AllTried, SameRun, Agree}
use Rattle.flip_run.specs.Trials.{tally}
use Rattle.flip_run.proofs.Tallies.{tally_in}
use Rattle.std.specs.Prelude.{Err, Ok}
use Rattle.flip_run.specs.declared.DecodingError.TheVariants.{NonePassed, Refused}
use Rattle.flip_run.specs.Clauses.{Decoded}

-- the kind of an answer
abbrev pub kind_of : Decoded × List ℕ → ℕ
kind_of (Ok t, bytes) = 0
kind_of (Err (NonePassed t), bytes) = 1
kind_of (Err (Refused r), bytes) = 2

-- an answer is of one kind
pub one_kind : {z z' z'' : Decoded × List ℕ} → z ≡ z' → z ≡ z'' → kind_of z' ≡ kind_of z''
one_kind e e' = sym (ap kind_of e) ∙ ap kind_of e'

same_code : (d : List ℕ) {c c' : Code} → describe d ≡ Ok c → describe d ≡ Ok c' → c' ≡ c
same_code d {c} {c'} e e' = let same : Ok c' ≡ Ok c = sym e' ∙ e in cc

module _ {p : Decoder} {d channel : List ℕ} {c : Code} where
  -- a run, if full decoding refuses nothing before 16
  pub run_in : describe d ≡ Ok c → Agree p d channel 1 → {z : Decoded × List ℕ} → decoded_as p Root d channel (0 ∷ []) ≡ z → kind_of z < 2 → SameRun p d c channel 1
  run_in code agree e few =
      ⊎_elim (λ r. absurd (omega (arith, one_kind e (r.1 Root (0 ∷ []) refl), few)))
      (λ u. subst (λ (k : Code). SameRun p d k channel 1) (same_code d code u.1) u.2) agree

  -- if full decoding accepts, every restart does, on that trial and with that payload
  pub accepted-run : {t s : ℕ} {payload : List ℕ} (x : SameRun p d c channel 1) → decoded_as p Root d channel (0 ∷ []) ≡ (Ok (tally t s), payload)
      → (x.made ≡ t) × ((r : Restart) (byte : ℕ) → decoded_as p r d channel (byte ∷ []) ≡ (Ok (tally t (x.steps r)), payload))
  accepted-run {t = t} {s = s} x e =
      ⊎_elim
      (λ u.
      let same = sym e ∙ u.1 Root (0 ∷ []) refl in
      let answer : Ok (tally t s) ≡ Ok (tally x.made (x.steps Root)) = ap (λ (z : Decoded × List ℕ). z.0) same in
      let made : x.made ≡ t = sym (ap (λ (a : Decoded). (tally_in a).trials) answer) in
      (made, λ r byte. u.1 r (byte ∷ []) refl ∙ ap₂ (λ (m : ℕ) (b : List ℕ). (Ok (tally m (x.steps r)), b)) made (sym (ap (λ (z : Decoded × List ℕ). z.1) same))))
      (λ u. absurd (omega (arith, one_kind e (u.2 Root (0 ∷ []) refl)))) x.answers

  -- if full decoding refuses as 16, every restart does, after that many trials, and each output is as it was: so many sets were tried, up to the limit or
  -- all that there are
  pub refused_run : {m s : ℕ} {bytes : List ℕ} (x : SameRun p d c channel 1) → decoded_as p Root d channel (0 ∷ []) ≡ (Err (NonePassed (tally m s)), bytes)
      → (length (flips_of p (mask_of d) c (channel_values channel)) + 1 ≡ m)
      × ((m ≡ limit_of p) ⊎ AllTried p (mask_of d) c (channel_values channel))
      × ((r : Restart) (byte : ℕ) → decoded_as p r d channel (byte ∷ []) ≡ (Err (NonePassed (tally m (x.steps r))), byte ∷ []))
  refused_run {m = m} {s = s} x e =
      ⊎_elim (λ u. absurd (omega (arith, one_kind e (u.1 Root (0 ∷ []) refl))))
      (λ u.
      let answer : Err (NonePassed (tally m s)) ≡ Err (NonePassed (tally x.made (x.steps Root))) = ap (λ (z : Decoded × List ℕ). z.0) (sym e ∙ u.2 Root (0 ∷ []) refl) in
      let made : x.made ≡ m = sym (ap (λ (a : Decoded). (tally_in a).trials) answer) in (
        sym u.0 ∙ made,
        ⊎_elim (λ l. inl (sym made ∙ l)) inr u.1,
        λ r byte. u.2 r (byte ∷ []) refl ∙ ap (λ (k : ℕ). (Err (NonePassed (tally k (x.steps r))), byte ∷ [])) made,
      ))
      x.answers
