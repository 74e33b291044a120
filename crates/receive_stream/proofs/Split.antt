-- The input is its whole records in order, and what is left.
use mathlib.Core.Path.{◌≡◌, refl, sym, ap, ap₂, ◌∙◌}
use mathlib.Core.Bool.{Bool, true, false, cond}
use mathlib.Core.List.{List, [], ◌∷◌, ◌++◌, flatten, append_assoc}
use Prim.Native.Nat.{ℕ, zero, suc, ◌+◌, ◌*◌, ◌<◌, ◌≤◌}
use native.Mathlib.Omega.{arith}
use lib.ListN.{length, get_or, take, drop, length-append, length-drop, take-append-drop}
use lib.Seq.{length-take-le, take_at, drop_at, get_or-take}
use Rattle.code.specs.Description.{word}
use Rattle.receive_stream.specs.Stream.{starts_whole, records_in, records_of}
use Rattle.receive_stream.specs.Claims.{IsRecord, Split}
use Rattle.receive_stream.proofs.Whole.{Starts, starts-whole, whole-starts, none-whole, word-append}

-- one step of `records_in`: the records after the first are `more`
abbrev step : Bool → List ℕ → List (List ℕ) × List ℕ → List (List ℕ) × List ℕ
step whole input more = cond whole (take (word input 0) input ∷ more.0, more.1) ([], input)

-- as many as bytes are enough
records_enough : (m m' : ℕ) (input : List ℕ) → length input ≤ m → length input ≤ m' → records_in m input ≡ records_in m' input
unfolding records_in
records_enough zero zero input l l' = refl
records_enough zero (suc m') [] l l' = refl
records_enough zero (suc m') (x ∷ input) l l' = absurd (omega arith)
records_enough (suc m) zero [] l l' = refl
records_enough (suc m) zero (x ∷ input) l l' = absurd (omega arith)
records_enough (suc m) (suc m') input l l' =
    let shorter = length-drop (word input 0) input in
    go (starts_whole input) refl (λ s. records_enough m m' (drop (word input 0) input) (omega (arith, s.least, s.most)) (omega (arith, s.least, s.most)))
  where
    go : (t : Bool) → starts_whole input ≡ t → (Starts input → records_in m (drop (word input 0) input) ≡ records_in m' (drop (word input 0) input))
        → step t input (records_in m (drop (word input 0) input)) ≡ step t input (records_in m' (drop (word input 0) input))
    go true e more = ap (step true input) (more (whole-starts input e))
    go false e more = refl

-- no whole record comes first
none_in : (m : ℕ) (input : List ℕ) → starts_whole input ≡ false → records_in m input ≡ ([], input)
unfolding records_in
none_in zero input e = refl
none_in (suc m) input e = ap (λ (t : Bool). step t input (records_in m (drop (word input 0) input))) e

pub records_none : (input : List ℕ) → starts_whole input ≡ false → records_of input ≡ ([], input)
records_none input e = none_in (length input) input e

-- a record comes first
pub records_first : (r rest : List ℕ) → IsRecord r → records_of (r ++ rest) ≡ (r ∷ (records_of rest).0, (records_of rest).1)
unfolding records_in
records_first r rest p =
    let input = r ++ rest in
    let long = length-append r rest in
    let size : word (r ++ rest) 0 ≡ length r = word-append r rest p.least ∙ p.length_is in
    let whole : starts_whole (r ++ rest) ≡ true = starts-whole {input = r ++ rest} (record { header = omega (arith, p.least); least = omega (arith, p.least); most = omega arith }) in
    let more : records_in (length (r ++ rest)) (drop (word (r ++ rest) 0) (r ++ rest)) ≡ records_of rest =
    ap (records_in (length (r ++ rest))) (ap (λ (k : ℕ). drop k (r ++ rest)) size ∙ drop_at r rest (length r) refl)
    ∙ records_enough (length (r ++ rest)) (length rest) rest (omega arith) (omega arith) in
    records_enough (length (r ++ rest)) (suc (length (r ++ rest))) (r ++ rest) (omega arith) (omega arith)
    ∙ ap (λ (t : Bool). step t (r ++ rest) (records_in (length (r ++ rest)) (drop (word (r ++ rest) 0) (r ++ rest)))) whole
    ∙ ap₂ (λ (x : List ℕ) (m : List (List ℕ) × List ℕ). (x ∷ m.0, m.1)) (ap (λ (k : ℕ). take k (r ++ rest)) size ∙ take_at r rest (length r) refl) more

-- the record that comes first
first_record : (input : List ℕ) → Starts input → IsRecord (take (word input 0) input)
first_record input s =
    let long = length-take-le (word input 0) input s.most in
    record {
      least = omega (arith, s.least);
      length_is = ap₂ (λ (x y : ℕ). x + 256 * y) (get_or-take (word input 0) input 0 0 (omega (arith, s.least))) (get_or-take (word input 0) input 1 0 (omega (arith, s.least))) ∙ sym long;
    }

-- a record before others
split-more : {input : List ℕ} {more : List (List ℕ) × List ℕ} → Starts input → Split (drop (word input 0) input) more.0 more.1 → Split input (take (word input 0) input ∷ more.0) more.1
unfolding flatten
split-more {input} {more} s p = record {
  joins = append_assoc (take (word input 0) input) (flatten more.0) more.1 ∙ ap (λ (x : List ℕ). take (word input 0) input ++ x) p.joins ∙ take-append-drop (word input 0) input;
  each = each;
  none = p.none;
}
  where
    each : (i : ℕ) → i < suc (length more.0) → IsRecord (get_or (take (word input 0) input ∷ more.0) i [])
    each zero c = first_record input s
    each (suc i) c = p.each i (omega arith)

split-none : (input : List ℕ) → starts_whole input ≡ false → Split input [] input
unfolding flatten
split-none input e = record { joins = refl; each = λ i c. absurd (omega arith); none = e }

split_in : (m : ℕ) (input : List ℕ) → length input ≤ m → Split input (records_in m input).0 (records_in m input).1
unfolding records_in
split_in zero input l = split-none input (none-whole input (λ s. omega (arith, s.header)))
split_in (suc m) input l =
    go (starts_whole input) refl (λ s. split_in m (drop (word input 0) input) (omega (arith, s.least, s.most, length-drop (word input 0) input)))
  where
    go : (t : Bool) → starts_whole input ≡ t
        → (Starts input → Split (drop (word input 0) input) (records_in m (drop (word input 0) input)).0 (records_in m (drop (word input 0) input)).1)
        → let o = step t input (records_in m (drop (word input 0) input)) in Split input o.0 o.1
    go true e more = let s = whole-starts input e in split-more {input = input} {more = records_in m (drop (word input 0) input)} s (more s)
    go false e more = split-none input e

-- the definition ends for every input: it leaves no whole record
pub records_of_lem : (input : List ℕ) → Split input (records_of input).0 (records_of input).1
records_of_lem input = split_in (length input) input (omega arith)

-- and there is no other way to take the input apart
pub records_only : {input left : List ℕ} (records : List (List ℕ)) → Split input records left → records_of input ≡ (records, left)
unfolding flatten
records_only {input} {left} [] s = ap records_of (sym s.joins) ∙ records_none left s.none
records_only {input} {left} (r ∷ rs) s =
    let behind : Split (flatten rs ++ left) rs left = record { joins = refl; each = λ i c. s.each (suc i) (omega arith); none = s.none } in
    ap records_of (sym s.joins ∙ append_assoc r (flatten rs) left)
    ∙ records_first r (flatten rs ++ left) (s.each 0 (omega arith))
    ∙ ap (λ (m : List (List ℕ) × List ℕ). (r ∷ m.0, m.1)) (records_only rs behind)
