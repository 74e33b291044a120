-- What a buffer holds after any list of calls on it.
use mathlib.Core.Path.{◌≡◌, refl, sym, ap, ◌∙◌, subst}
use mathlib.Core.Bool.{Bool, cond}
use mathlib.Core.List.{List, [], ◌∷◌}
use Prim.Native.Nat.{ℕ, ◌^◌}
use native.Mathlib.Omega.{arith}
use borrow.Author.Tests.{eq-eqb}
use lib.ListN.{length}
use Rattle.refusal.specs.declared.Refusal.{Refusal}
use Rattle.refusal.specs.Judge.{judge, refused_or}
use Rattle.arrays.specs.Sizes.{largest_n}
use Rattle.arrays.proofs.Zeros.{length-padded}
use Rattle.code.specs.declared.Code.{Code}
use Rattle.code.specs.Description.{describe}
use Rattle.code.specs.Code.{longest_description}
use Rattle.hearing.specs.Hearing.{fresh, add_refusals}
use Rattle.hearing_state.specs.State.{State, state_of, opened, added, cleared}
use Rattle.hearing_buffer.specs.Lent.{hearing_size, bytes_of, state_in, answer_in, opened_in}
use Rattle.hearing_buffer.specs.Clauses.{Kept as Answer}
use Rattle.hearing_buffer.proofs.Bytes.{size_of, read_written}
use Rattle.hearing_demands.specs.Repeats.{Call, add, clear, after, buffer_after, BufferAfter}
use Rattle.hearing_demands.proofs.Descriptions.{description-room, opened-is}
use Rattle.hearing_demands.proofs.HeldAfter.{Invariant, room, kept_fresh, kept-add, kept_clear}
use Rattle.hearing_demands.proofs.Refused.{refused_keeps}
use Rattle.std.specs.Prelude.{Err, Ok}
use Rattle.refusal.specs.declared.Refusal.TheVariants.{NotAState}
use Rattle.refusal.specs.Clauses.{Judgement}

-- a buffer of the right size in which the state s is read
record InBuffer (b : List ℕ) (s : State) : Type 0 where
  size : length b ≡ hearing_size
  reads : state_in b ≡ s

module _ (d : List ℕ) (c : Code) (code : describe d ≡ Ok c) where
  -- a state that calls leave is read back from its bytes
  written : {s : State} {vectors : List (List ℕ)} → Invariant d c code s vectors → InBuffer (bytes_of s) s
  written {s} k =
      let sizes : (length s.description ≡ longest_description) × (length s.hearing.values ≡ 2 ^ largest_n) =
      subst (λ (t : State). (length t.description ≡ longest_description) × (length t.hearing.values ≡ 2 ^ largest_n)) (sym k.state_is) (
        length-padded longest_description d (description-room d c code),
        length-padded (2 ^ largest_n) k.values (omega (arith, k.inside.size_is, room d c code)),
      ) in
      record { size = size_of s sizes.0 sizes.1; reads = read_written s sizes.0 sizes.1 }

  -- a call leaves its state in the buffer, or the buffer as it was
  left_in : (b : List ℕ) (a : Judgement × State) {vectors : List (List ℕ)} → length b ≡ hearing_size → ((x : Refusal) → a.0 ≡ Err x → a.1 ≡ state_in b)
      → Invariant d c code a.1 vectors → InBuffer (answer_in a b).1 a.1
  unfolding refused_or
  left_in b a nb same k = go a.0 refl
    where
      by : Judgement → Answer × List ℕ
      by j = refused_or j (λ x. (Err x, b)) (Ok a.1.hearing.count, bytes_of a.1)

      go : (j : Judgement) → a.0 ≡ j → InBuffer (by j).1 a.1
      go (Ok tt) e = written k
      go (Err x) e = record { size = nb; reads = sym (same x e) }

  -- the next call on this buffer
  step : {b : List ℕ} {s : State} {vectors : List (List ℕ)} (calls : List Call)
      → ((b : List ℕ) (vectors : List (List ℕ)) → length b ≡ hearing_size → Invariant d c code (state_in b) vectors → state_in (buffer_after b calls) ≡ after (state_in b) calls)
      → InBuffer b s → Invariant d c code s vectors → state_in (buffer_after b calls) ≡ after s calls
  step {b} {s} {vectors} calls next i k =
      next b vectors i.size (subst (λ (t : State). Invariant d c code t vectors) (sym i.reads) k) ∙ ap (λ (t : State). after t calls) i.reads

  in_after : (calls : List Call) (b : List ℕ) (vectors : List (List ℕ)) → length b ≡ hearing_size → Invariant d c code (state_in b) vectors
      → state_in (buffer_after b calls) ≡ after (state_in b) calls
  in_after [] b vectors nb k = refl
  in_after (add channel ∷ calls) b vectors nb k =
      let s = state_in b in
      let k' = kept-add d c code s vectors k channel (judge (add_refusals c (length vectors) channel)) refl in
      step calls (in_after calls) (left_in b (added s channel) nb (refused_keeps s (add channel)) k') k'
  in_after (clear ∷ calls) b vectors nb k =
      let s = state_in b in
      let k' = kept_clear d c code s vectors k in
      step calls (in_after calls) (left_in b (cleared s) nb (refused_keeps s clear) k') k'

  opened_in_lem : (b : List ℕ) → length b ≡ hearing_size → (opened_in d b).1 ≡ bytes_of (state_of d fresh)
  unfolding refused_or
  opened_in_lem b nb =
      ap (λ (t : Bool). (cond t (answer_in (opened d) b) (Err NotAState, b)).1) (eq-eqb (length b) hearing_size nb)
      ∙ ap (λ (a : Judgement × State). (answer_in a b).1) (opened-is d c code)

pub buffer-after : BufferAfter
buffer-after d b c calls code nb =
    let k = kept_fresh d c code {s = state_of d fresh} refl in
    ap (λ (x : List ℕ). state_in (buffer_after x calls)) (opened_in_lem d c code b nb)
    ∙ step d c code calls (in_after d c code calls) (written d c code k) k
    ∙ ap (λ (a : Judgement × State). after a.1 calls) (sym (opened-is d c code))
