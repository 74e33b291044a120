-- A state that is not refused as 40 is left by some adds: of zeros, all but the last, and of the values that it holds.
use mathlib.Core.Path.{◌≡◌, refl, sym, ap, ap₂, ◌∙◌, subst}
use mathlib.Core.Bool.{true, cond}
use mathlib.Core.List.{List, [], ◌∷◌, ◌++◌}
use Prim.Native.Nat.{ℕ, zero, suc, ◌+◌, ◌-◌, ◌^◌, ◌≤◌, ◌<◌, min}
use native.Mathlib.Nat.{le_refl}
use native.Mathlib.Omega.{arith}
use borrow.Author.Tests.{ne_eqb}
use lib.Dec.{eqb}
use lib.IntN.{ℤ, pos, negsuc, neg_ℤ, nat_abs, +ℤ_idl}
use lib.ListN.{length, get_or, take, drop, replicate, length-drop, take-append-drop, get_or-replicate}
use lib.Seq.{length-take-le}
use Rattle.laws.specs.Table.{table}
use Rattle.laws.proofs.Choice.{and_true}
use Rattle.laws.proofs.Each.{Each, each_take, each-drop}
use Rattle.laws.proofs.Table.{table_ext, table-get_or}
use Rattle.refusal.specs.Judge.{judge}
use Rattle.refusal.proofs.Judge.{judge-none, judge_no, append-fine}
use Rattle.arrays.specs.Sizes.{largest_n}
use Rattle.arrays.specs.Padded.{padded, all_zero}
use Rattle.arrays.proofs.Zeros.{zeros_are, zeros-past}
use Rattle.code.specs.declared.Code.{Code}
use Rattle.code.specs.Code.{code_length, longest_description}
use Rattle.code.specs.Description.{word, describe}
use Rattle.code.proofs.Facts.{described}
use Rattle.channel.specs.Channel.{channel_value, byte_of, clip, channel_refusals}
use Rattle.channel.proofs.Bytes.{byte_channel}
use Rattle.channel.proofs.Judge.{channel_fine}
use Rattle.channel.proofs.Outside.{each-inside}
use Rattle.hearing.specs.Hearing.{Hearing, hearing_of, combined, fresh, clipped_sums, add_refusals, is_hearing}
use Rattle.hearing.specs.Clauses.{clipped_sum, zero_from}
use Rattle.hearing.proofs.Adding.{from_most, count_most, zero_from_lem, held-size, held-inside}
use Rattle.hearing.proofs.Inside.{Inside, none-outside, each-zero, zeros-inside, fresh-is, zeros_hearing}
use Rattle.hearing_state.specs.State.{State, state_of, description_of, code_of_state, added, opened}
use Rattle.hearing_state.proofs.States.{state_is}
use Rattle.hearing_demands.specs.Repeats.{Call, add, after}
use Rattle.hearing_buffer.specs.Lent.{bytes_of, state_in}
use Rattle.hearing_buffer.proofs.Bytes.{state_at_lem, written_read}
use Rattle.hearing_demands.specs.Claims.{FitsBuffer, LeftBySome, BytesLeft}
use Rattle.hearing_demands.proofs.Descriptions.{opened-is}
use Rattle.hearing_demands.proofs.HeldAfter.{room, added-fine}
use Rattle.std.specs.Prelude.{Ok}
use Rattle.refusal.specs.Clauses.{Judgement}

-- ---- adds to zeros

clip-same : (z : ℤ) → nat_abs z ≤ 31 → clip z ≡ z
clip-same (pos n) l = let e : min 31 n ≡ n = omega arith in ap pos e
clip-same (negsuc n) l = let e : min 31 (suc n) ≡ suc n = omega arith in ap (λ (k : ℕ). neg_ℤ (pos k)) e

zero_and : (b : ℕ) → b < 256 → nat_abs (channel_value b) ≤ 31 → clipped_sum 0 b ≡ b
unfolding channel_value
zero_and b l small =
    ap (λ (z : ℤ). byte_of (clip z)) (+ℤ_idl (channel_value b)) ∙ ap byte_of (clip-same (channel_value b) small) ∙ byte_channel b l

abbrev Byte : ℕ → Type 0
Byte b = b < 256

module _ (d : List ℕ) (c : Code) (code : describe d ≡ Ok c) where
  abbrev N : ℕ
  N = code_length c

  abbrev zeros : List ℕ
  zeros = replicate N 0

  abbrev holding : List ℕ → ℕ → State
  holding v count = state_of d (hearing_of v count)

  -- one add
  add-leaves : {v : List ℕ} → Inside N v → Each Byte 0 v → {count : ℕ} → count < 255 → (added (holding zeros count) v).1 ≡ holding v (count + 1)
  add-leaves {v} w bytes {count} l =
      let fine : judge (add_refusals c count v) ≡ Ok tt =
      append-fine (channel_refusals c v) _ (channel_fine c v w.size_is (none-outside w ∙ sym w.size_is))
      ∙ judge_no _ _ _ (ne_eqb count 255 (λ e. omega arith)) ∙ judge-none in
      let same : clipped_sums N zeros v ≡ v =
      table_ext _ (λ i. get_or v i 0) N (λ i m.
      ap (λ (a : ℕ). clipped_sum a (get_or v i 0)) (get_or-replicate N i 0 0 m) ∙ zero_and (get_or v i 0) (bytes i) (w.at i))
      ∙ ap (table (λ i. get_or v i 0)) (sym w.size_is) ∙ table-get_or v 0 in
      added-fine d c code zeros (zeros-inside N) count (zeros_hearing c (room d c code) count (omega arith)) v fine
      ∙ ap (λ (x : List ℕ). holding x (count + 1)) same

  -- m adds of zeros, and one of v
  abbrev adds : List ℕ → ℕ → List Call
  adds v zero = add v ∷ []
  adds v (suc m) = add zeros ∷ adds v m

  adds_leave : {v : List ℕ} → Inside N v → Each Byte 0 v → (m count total : ℕ) → count + suc m ≡ total → total ≤ 255
      → after (holding zeros count) (adds v m) ≡ holding v total
  adds_leave {v} w bytes zero count total e l = add-leaves w bytes (omega arith) ∙ ap (holding v) e
  adds_leave {v} w bytes (suc m) count total e l =
      ap (λ (s : State). after s (adds v m)) (add-leaves (zeros-inside N) (each-zero Byte (omega arith) N) (omega arith))
      ∙ adds_leave w bytes m (count + 1) total (omega arith) l

-- ---- a list is its beginning and the zeros after it

take_own : (k : ℕ) (w : List ℕ) → take (length (take k w)) w ≡ take k w
take_own zero w = refl
take_own (suc k) [] = refl
take_own (suc k) (x ∷ w) = ap (λ (r : List ℕ). x ∷ r) (take_own k w)

padded-is : (size k : ℕ) (w : List ℕ) → length w ≡ size → {from : ℕ} → from ≤ length (take k w) → all_zero (drop from w) ≡ true
    → w ≡ padded size (take k w)
padded-is size k w long {from} l e =
    let n : ℕ = length (take k w) in
    sym (take-append-drop n w) ∙ ap₂ ◌++◌ (take_own k w) (zeros-past w from n l e ∙ ap (λ (m : ℕ). replicate (m - n) 0) long)

-- ---- the state

module _ (s : State) (c : Code) (z : FitsBuffer s) (e : code_of_state s ≡ Ok c) where
  abbrev d : List ℕ
  d = description_of s

  abbrev h : Hearing
  h = s.hearing

  abbrev v : List ℕ
  v = combined c h

  code : describe d ≡ Ok c
  code = (state_is s c e).0

  parts : (all_zero (drop (length d) s.description) ≡ true) × (is_hearing c h ≡ true)
  parts = and_true _ (is_hearing c h) (state_is s c e).1

  -- it is the one with these values
  same : (x : List ℕ) → h.values ≡ padded (2 ^ largest_n) x → state_of d (hearing_of x h.count) ≡ s
  same x p =
      let w : List ℕ = s.description in
      let q : w ≡ padded longest_description d = padded-is longest_description (word w 0) w z.description_size (le_refl (length d)) parts.0 in
      sym (λ i. record { description = q i; hearing = record { values = p i; count = h.count } })

  inside : Inside (code_length c) v
  inside =
      let n_most = (described d c code).coded.n_most in
      let size = held-size c h n_most z.values_size in
      record { size_is = size; at = each-inside v (omega (arith, size, held-inside c h parts.1)) }

  opened_state : (opened d).1 ≡ state_of d fresh
  opened_state = ap (λ (a : Judgement × State). a.1) (opened-is d c code)

  left : (count : ℕ) → h.count ≡ count → (calls : List Call) × (after (opened d).1 calls ≡ s)
  left zero none =
      let zeros = subst (λ (n : ℕ). all_zero (drop (cond (eqb n 0) 0 (code_length c)) h.values) ≡ true) none (zero_from_lem c h parts.1) in (
        [],
        opened_state ∙ ap (λ (n : ℕ). state_of d (hearing_of [] n)) (sym none)
            ∙ same [] (zeros_are h.values zeros ∙ ap (λ (n : ℕ). replicate n 0) z.values_size),
      )
  left (suc m) some =
      let calls : List Call = adds d c code v m in
      let bytes : Each Byte 0 v = each_take Byte 0 (omega arith) (code_length c) h.values z.bytes in
      let past : zero_from c h.count ≤ length v = omega (arith, from_most c h.count, inside.size_is) in (
        calls,
        ap (λ (t : State). after t calls) (opened_state ∙ ap (state_of d) (fresh-is (room d c code)))
            ∙ adds_leave d c code inside bytes m 0 h.count (omega arith) (count_most c h parts.1)
            ∙ same v (padded-is (2 ^ largest_n) (code_length c) h.values z.values_size past (zero_from_lem c h parts.1)),
      )

pub left_by_some : LeftBySome
left_by_some s c z e = left s c z e s.hearing.count refl

-- ---- bytes of a buffer

pub bytes_left : BytesLeft
bytes_left b c size bytes e =
    let x = left_by_some (state_in b) c sized e in
    (x.0, ap bytes_of x.1 ∙ written_read b size)
  where
    sized : FitsBuffer (state_in b)
    sized =
        subst FitsBuffer (sym (state_at_lem b size)) (record {
          description_size = length-take-le longest_description b (omega (arith, size));
          values_size = omega (arith, length-drop (1 + longest_description) b, size);
          bytes = each-drop Byte 0 (1 + longest_description) b bytes;
        })
