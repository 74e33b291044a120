-- What a hearing holds after any list of adds and clears.
use mathlib.Core.Path.{◌≡◌, refl, sym, ap, ◌∙◌, subst}
use mathlib.Core.Bool.{true}
use mathlib.Core.List.{List, [], ◌∷◌, ◌++◌, map}
use Prim.Native.Nat.{ℕ, ◌+◌, ◌^◌, ◌≤◌, ◌<◌}
use native.Mathlib.Omega.{arith}
use lib.IntN.{ℤ, pos, ◌+ℤ◌}
use lib.ListN.{length, get_or, replicate, length-append}
use Rattle.laws.specs.Table.{table}
use Rattle.refusal.specs.declared.Refusal.{Refusal}
use Rattle.refusal.specs.Judge.{judge, refused_or}
use Rattle.refusal.proofs.Judge.{refused_fine, refused_by}
use Rattle.arrays.specs.Sizes.{largest_n}
use Rattle.arrays.proofs.Sizes.{fits}
use Rattle.code.specs.declared.Code.{Code}
use Rattle.code.specs.Code.{code_length}
use Rattle.code.specs.Description.{describe}
use Rattle.code.proofs.Facts.{described}
use Rattle.channel.specs.Channel.{clip, channel_values, first_outside}
use Rattle.decoder.specs.Decoder.{single}
use Rattle.decoder_demands.proofs.Agreement.{agreement}
use Rattle.hearing.specs.Hearing.{Hearing, hearing_of, combined, fresh, clipped_sums, add_refusals, is_hearing}
use Rattle.hearing.proofs.Adding.{not_full}
use Rattle.hearing.proofs.Inside.{Inside, none-outside, zeros-inside, sums-inside, zeros-values, sums-values, fresh-is, combined-is, added_to_lem, zeros_hearing, heard_hearing}
use Rattle.hearing_state.specs.State.{State, state_of, refused_in, opened, added, cleared}
use Rattle.hearing_state.specs.Clauses.{added_under}
use Rattle.hearing_demands.specs.Repeats.{Call, add, clear, after, accepted_in, fold_of_sums, Holds, HeldAfter}
use Rattle.hearing_demands.specs.Claims.{Bounds, HeldBounds}
use Rattle.hearing_demands.proofs.Descriptions.{opened-is, description-of, code_of, on_state, decoded_is}
use Rattle.std.specs.Prelude.{Err, Ok}
use Rattle.refusal.specs.Clauses.{Judgement}

-- the last vector apart
fold-snoc : (size : ℕ) (sums : List ℤ) (vectors : List (List ℕ)) (channel : List ℕ)
    → fold_of_sums size sums (map channel_values (vectors ++ (channel ∷ [])))
    ≡ table (λ i. clip (get_or (fold_of_sums size sums (map channel_values vectors)) i (pos 0) +ℤ get_or (channel_values channel) i (pos 0))) size
fold-snoc size sums [] channel = refl
fold-snoc size sums (v ∷ vectors) channel = fold-snoc size (table (λ i. clip (get_or sums i (pos 0) +ℤ get_or (channel_values v) i (pos 0))) size) vectors channel

module _ (d : List ℕ) (c : Code) (code : describe d ≡ Ok c) where
  abbrev N : ℕ
  N = code_length c

  pub room : N ≤ 2 ^ largest_n
  room = fits (described d c code).coded.n_most

  -- ---- adds

  module _ (v : List ℕ) (w : Inside N v) (count : ℕ) (is : is_hearing c (hearing_of v count) ≡ true) (channel : List ℕ) where
    abbrev s : State
    s = state_of d (hearing_of v count)

    under : (added s channel).1 ≡ (added_under c s channel).1
    under = ap (λ (a : Judgement × State). a.1) (on_state d c code (hearing_of v count) is (refused_in s) (λ c. added_under c s channel))

    pub added-fine : judge (add_refusals c count channel) ≡ Ok tt → (added s channel).1 ≡ state_of d (hearing_of (clipped_sums N v channel) (count + 1))
    added-fine e = under ∙ ap (λ (a : Judgement × State). a.1) (refused_fine (refused_in s) _ _ e) ∙ ap (state_of d) (added_to_lem c v w count channel)

    added_refused : (x : Refusal) → judge (add_refusals c count channel) ≡ Err x → (added s channel).1 ≡ s
    added_refused x e = under ∙ ap (λ (a : Judgement × State). a.1) (refused_by (refused_in s) _ _ x e)

  -- ---- the invariant of a list of calls

  pub record Invariant (s : State) (vectors : List (List ℕ)) : Type 0 where
    pub values : List ℕ
    pub state_is : s ≡ state_of d (hearing_of values (length vectors))
    pub inside : Inside N values
    pub hearing : is_hearing c (hearing_of values (length vectors)) ≡ true
    pub most : length vectors ≤ 255
    pub values_are : channel_values values ≡ fold_of_sums N (replicate N (pos 0)) (map channel_values vectors)

  pub kept_fresh : {s : State} → s ≡ state_of d fresh → Invariant s []
  kept_fresh e = record {
    values = replicate N 0;
    state_is = e ∙ ap (state_of d) (fresh-is room);
    inside = zeros-inside N;
    hearing = zeros_hearing c room 0 (omega arith);
    most = omega arith;
    values_are = zeros-values N;
  }

  module _ (s : State) (vectors : List (List ℕ)) (k : Invariant s vectors) where
    abbrev h : Hearing
    h = hearing_of k.values (length vectors)

    pub kept_clear : Invariant (cleared s).1 []
    kept_clear =
        kept_fresh (ap (λ (t : State). (cleared t).1) k.state_is
        ∙ ap (λ (a : Judgement × State). a.1) (on_state d c code h k.hearing (refused_in (state_of d h)) (λ _. (Ok tt, state_of d fresh))))

    pub kept-add : (channel : List ℕ) (j : Judgement) → judge (add_refusals c (length vectors) channel) ≡ j
        → Invariant (added s channel).1 (refused_or j (λ _. vectors) (vectors ++ (channel ∷ [])))
    unfolding refused_or
    kept-add channel (Ok tt) e =
        let sums : List ℕ = clipped_sums N k.values channel in
        let w : Inside N sums = sums-inside N k.values channel in
        let full : length vectors < 255 = not_full c (length vectors) channel e k.most in
        let more : length vectors + 1 ≡ length (vectors ++ (channel ∷ [])) = sym (length-append vectors (channel ∷ [])) in
        record {
          values = sums;
          state_is = ap (λ (t : State). (added t channel).1) k.state_is
              ∙ added-fine k.values k.inside (length vectors) k.hearing channel e ∙ ap (λ (n : ℕ). state_of d (hearing_of sums n)) more;
          inside = w;
          hearing = subst (λ (n : ℕ). is_hearing c (hearing_of sums n) ≡ true) more (heard_hearing c sums w (length vectors) full);
          most = omega (arith, full);
          values_are = sums-values N k.values channel
              ∙ ap (λ (vs : List ℤ). table (λ i. clip (get_or vs i (pos 0) +ℤ get_or (channel_values channel) i (pos 0))) N) k.values_are
              ∙ sym (fold-snoc N (replicate N (pos 0)) vectors channel);
        }
    kept-add channel (Err x) e =
        let same : (added s channel).1 ≡ s = ap (λ (t : State). (added t channel).1) k.state_is
        ∙ added_refused k.values k.inside (length vectors) k.hearing channel x e ∙ sym k.state_is in
        subst (λ (t : State). Invariant t vectors) (sym same) k

    same : combined c h ≡ k.values
    same = combined-is c k.values k.inside (length vectors)

    holds : Holds d c s vectors
    holds =
        subst (λ (t : State). Holds d c t vectors) (sym k.state_is) (record {
          description_is = description-of d c code h;
          code_is = code_of d c code h k.hearing;
          count_is = refl;
          values_are = ap channel_values same ∙ k.values_are;
          decoded_is = decoded_is d c code h k.hearing;
          agree = λ limit size. agreement (single limit) d (combined c h) size;
        })

    bounds : Bounds c s vectors
    bounds =
        subst (λ (t : State). Bounds c t vectors) (sym k.state_is) (record {
          count_most = k.most;
          size_is = ap length same ∙ k.inside.size_is;
          in_range = ap first_outside same ∙ none-outside k.inside;
        })

  kept : (s : State) (vectors : List (List ℕ)) (calls : List Call) → Invariant s vectors → Invariant (after s calls) (accepted_in c vectors calls)
  kept s vectors [] k = k
  kept s vectors (add channel ∷ calls) k = kept (added s channel).1 (refused_or (judge (add_refusals c (length vectors) channel)) (λ _. vectors) (vectors ++ (channel ∷ []))) calls (kept-add s vectors k channel (judge (add_refusals c (length vectors) channel)) refl)
  kept s vectors (clear ∷ calls) k = kept (cleared s).1 [] calls (kept_clear s vectors k)

  -- from a fresh hearing
  kept-after : (calls : List Call) → Invariant (after (opened d).1 calls) (accepted_in c [] calls)
  kept-after calls = kept _ [] calls (kept_fresh (ap (λ (a : Judgement × State). a.1) (opened-is d c code)))

pub held_after_lem : HeldAfter
held_after_lem d c calls code = holds d c code _ _ (kept-after d c code calls)

pub held-bounds : HeldBounds
held-bounds d c calls code = bounds d c code _ _ (kept-after d c code calls)
