-- A codeword received with right signs and no zero strength decodes to its payload on trial 1.
use mathlib.Core.Path.{◌≡◌, refl, sym, ap, ap₂, ◌∙◌, subst, subst₂}
use mathlib.Core.Bool.{true, cond}
use mathlib.Core.Logic.{⊎_elim}
use mathlib.Core.List.{List, ◌∷◌}
use Prim.Native.Nat.{ℕ, ◌+◌, ◌*◌, ◌<◌}
use native.Mathlib.Omega.{arith}
use lib.Dec.{eqb}
use lib.IntN.{ℤ, nat_abs}
use lib.ListN.{length, get_or, take, get_or-map}
use lib.Seq.{take_all, take_at}
use Rattle.bits.specs.Mask.{ones_below}
use Rattle.bits.specs.Packing.{bytes_for, packed, unpacked, unused_bits}
use Rattle.bits.proofs.Lists.{bits-unpacked}
use Rattle.bits.proofs.Mask.{mask_cases}
use Rattle.bits.proofs.Packing.{length-unpacked, packed-unpacked}
use Rattle.code.specs.declared.Code.{Code}
use Rattle.code.specs.Code.{code_length, information_count, divisor, start_bits}
use Rattle.code.specs.Description.{mask_of, describe}
use Rattle.code.specs.Claims.{Described}
use Rattle.code.proofs.Facts.{described}
use Rattle.crc.specs.Check.{check_of, passes}
use Rattle.crc.proofs.Message.{check_passes}
use Rattle.transform.specs.Transform.{transformed}
use Rattle.placing.specs.Place.{placed}
use Rattle.placing.proofs.Placing.{length-placed, get_or-placed, bits-placed, taken-placed}
use Rattle.values.specs.Values.{Rule, mask_rule, hard}
use Rattle.values.proofs.Rules.{rule_usual, rule-frozen}
use Rattle.values.proofs.Favours.{Favours}
use Rattle.channel.specs.Channel.{channel_value, channel_values}
use Rattle.encoder.specs.Encode.{message_of, codeword}
use Rattle.encoder.proofs.Message.{length-message, bits-message}
use Rattle.encoder.proofs.Codeword.{unpacked-codeword, EncodedFrom, encoded_from}
use Rattle.pass_tree.specs.Node.{Out}
use Rattle.pass_tree.proofs.Steps.{steps_whole}
use Rattle.pass_tree.proofs.Noiseless.{Signs, Carries, noiseless as pass-recovers}
use Rattle.flip_trial.specs.declared.Restart.TheVariants.{Root, AfterFlip}
use Rattle.flip_trial.specs.Trial.{first_trial, message_in, trial_passes}
use Rattle.flip_run.specs.Trials.{run, answer_of, tally}
use Rattle.decoder.specs.Decoder.{single}
use Rattle.decoder.proofs.Decoder.{fine-answer, under-code}
use Rattle.decoder_demands.specs.Noiseless.{Received, Noiseless, NoiselessDecoding}
use Rattle.decoder_demands.proofs.Run.{run-first}
use Rattle.std.specs.Prelude.{Ok}

-- an index carries the bit that is placed at it
carries : (mask message : List ℕ) (size i : ℕ) → i < size → Carries (mask_rule mask i) (get_or (placed mask message size) i 0)
carries mask message size i l =
    let bit : ℕ → ℕ = λ b. cond (eqb b 1) (get_or message (ones_below mask i) 0) 0 in
    ⊎_elim
    (λ z. subst₂ Carries (sym (rule-frozen mask i z)) (sym (get_or-placed mask message size i l ∙ ap bit z)) refl)
    (λ o. subst (λ (r : Rule). Carries r (get_or (placed mask message size) i 0)) (sym (rule_usual mask i o)) tt)
    (mask_cases mask i)

module _ (mask : List ℕ) (c : Code) (payload : List ℕ) (ones : ones_below mask (code_length c) ≡ information_count c) where
  abbrev bits : List ℕ
  bits = unpacked payload c.k

  abbrev message : List ℕ
  message = message_of c bits

  abbrev u : List ℕ
  u = placed mask message (code_length c)

  -- trial 1 recovers what was placed
  first_recovers : (channel : List ℕ) → ((j : ℕ) → j < code_length c → hard (channel_value (get_or channel j 0)) ≡ get_or (unpacked (codeword mask c payload) (code_length c)) j 0)
      → ((j : ℕ) → j < code_length c → 0 < nat_abs (channel_value (get_or channel j 0))) → (first_trial mask c (channel_values channel)).bits ≡ u
  unfolding channel_value
  first_recovers channel sign strength =
      (pass-recovers c.n u (mask_rule mask) (channel_values channel) (length-placed mask message (code_length c))
      (bits-placed mask message (code_length c) (bits-message c bits (bits-unpacked payload c.k)))
      (λ i l. carries mask message (code_length c) i l) signs).bits
    where
      signs : Signs (code_length c) (transformed c.n u) (channel_values channel)
      signs j l =
          subst₂ Favours (ap (λ (x : List ℕ). get_or x j 0) (unpacked-codeword mask c payload)) (sym (get_or-map channel_value channel j 0))
          (record { sign = sign j l; some = strength j l })

  -- and its message is the one that was encoded
  message-back : message_in mask c u ≡ message
  message-back =
      let m : length message ≡ information_count c = length-message c bits ∙ ap (λ (x : ℕ). x + c.r) (length-unpacked payload c.k) in
      taken-placed mask message (code_length c) (code_length c) (omega arith) (omega arith) ∙ take_all (ones_below mask (code_length c)) message (omega arith)

  -- its check passes
  passes-back : trial_passes mask c u ≡ true
  passes-back =
      ap₂ (λ (x : List ℕ) (m : ℕ). passes (divisor c) (start_bits c) m x) message-back (sym (length-unpacked payload c.k))
      ∙ check_passes (divisor c) (start_bits c) bits

  -- and it holds the payload
  payload-back : (small : (m : ℕ) → get_or payload m 0 < 256) → length payload ≡ bytes_for c.k → unused_bits payload c.k ≡ 0 → packed (take c.k (message_in mask c u)) ≡ payload
  payload-back small size clear =
      ap (λ (x : List ℕ). packed (take c.k x)) message-back
      ∙ ap packed (take_at bits (check_of (divisor c) (start_bits c) bits) c.k (length-unpacked payload c.k))
      ∙ packed-unpacked payload c.k small size clear

-- trials that begin with trial 1, whatever follows: the first one passes, with the payload
pub first-answer : (d : List ℕ) (c : Code) (payload channel output : List ℕ) → describe d ≡ Ok c → Received (code_length c) d payload channel → (later : List Out)
    → answer_of (mask_of d) c output (run (trial_passes (mask_of d) c) 0 0 (first_trial (mask_of d) c (channel_values channel) ∷ later)) ≡ (Ok (tally 1 (c.n * code_length c)), payload)
first-answer d c payload channel output code r later =
    let mask : List ℕ = mask_of d in
    let v : List ℤ = channel_values channel in
    let p : Described d c = described d c code in
    let e : EncodedFrom mask c payload r.buffer r.codeword = encoded_from d c payload r.buffer r.codeword code r.encodes in
    let ones : ones_below mask (code_length c) ≡ information_count c = ap (ones_below mask) (sym p.coded.mask_size) ∙ p.coded.K_is in
    let first : (first_trial mask c v).bits ≡ u mask c payload ones =
    first_recovers mask c payload ones channel (λ j l. r.sign j l ∙ ap (λ (x : List ℕ). get_or (unpacked x (code_length c)) j 0) (sym e.gives)) r.strength in
    let ok : trial_passes mask c (first_trial mask c v).bits ≡ true = ap (trial_passes mask c) first ∙ passes-back mask c payload ones in
    ap (answer_of mask c output) (run-first (trial_passes mask c) (first_trial mask c v) later ok)
    ∙ ap₂ (λ (s : ℕ) (x : List ℕ). (Ok (tally 1 s), x)) (steps_whole c.n (mask_rule mask) v)
    (ap (λ (b : List ℕ). packed (take c.k (message_in mask c b))) first
    ∙ payload-back mask c payload ones r.bytes e.well_formed.payload_size e.well_formed.unused_clear)

pub noiseless : Noiseless
noiseless p restart d c payload channel output r w =
    under-code p restart d channel output c w.described ∙ fine-answer p restart (mask_of d) c channel output w.fine
    ∙ first-answer d c payload channel output w.described r _

-- full and restarted decoding
pub noiseless_decoding : NoiselessDecoding
noiseless_decoding d c payload channel limit output r w =
    (noiseless (single limit) Root d c payload channel output r w, noiseless (single limit) AfterFlip d c payload channel output r w)
