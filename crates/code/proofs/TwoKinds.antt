-- Kinds 1 and 4: a slice that does not say kind 4 has the answer that document 01 by itself gives, one that does has that of document 02, and
-- with start 0 a record of kind 4 has the answer of kind 1.
use mathlib.Core.Path.{◌≡◌, refl, sym, ap, ap₂, ◌∙◌}
use mathlib.Core.Bool.{Bool, true, false, not, ◌||◌, cond}
use mathlib.Core.List.{List, [], ◌∷◌, ◌++◌}
use Prim.Native.Nat.{ℕ, ◌+◌, ◌*◌, ◌/◌, ◌%◌, ◌^◌, ◌≤◌}
use native.Mathlib.Nat.{zero-div}
use native.Mathlib.Omega.{arith}
use borrow.Author.Tests.{eqb-true, eqb-false, eq-eqb, ne_eqb, le-ltb}
use lib.Dec.{ltb, eqb}
use lib.ListN.{length, get_or, take, drop, length-drop}
use Rattle.refusal.specs.Judge.{differs, judge, refused_or}
use Rattle.refusal.proofs.Judge.{judge_without}
use Rattle.code.specs.declared.Code.{Code}
use Rattle.code.specs.Description.{word, has_start, mask_at, mask_of, is_wide, code_of, describe_up_to, describe}
use Rattle.code.specs.Claims.{refusals_at, code_at, describe_kind1, describe_kind4, with_start}
use Rattle.code.specs.Clauses.{description_refusals, Description}
use Rattle.std.specs.Prelude.{Err, Ok}
use Rattle.refusal.specs.declared.Refusal.TheVariants.{StartValue}
use Rattle.refusal.specs.Clauses.{Judgement}

-- the least and the largest index at which a mask begins
pub mask_at_least : (kind : ℕ) → 8 ≤ mask_at kind
mask_at_least kind = omega arith

pub mask_at-most : (kind : ℕ) → mask_at kind ≤ mask_at 4
mask_at-most kind = go (has_start kind)
  where
    go : (b : Bool) → 8 + cond b 2 0 ≤ mask_at 4
    go true = omega arith
    go false = omega arith

-- a slice that is not refused as 1 has the fields of kind 1
pub fields-there : (d : List ℕ) → mask_at (word d 2) ≤ length d → 8 ≤ length d
fields-there d header = omega (arith, mask_at_least (word d 2))

abbrev answer : Judgement → Code → Description
answer j c = refused_or j Err (Ok c)

-- a start of 0 has no bit at r or above
wide-zero : (r : ℕ) → is_wide 0 r ≡ false
wide-zero r = ap (λ (x : ℕ). differs x 0) (zero-div (2 ^ r))

or_no : (a : Bool) → (a || false) ≡ a
or_no true = refl
or_no false = refl

or_yes : (a : Bool) → (a || true) ≡ true
or_yes true = refl
or_yes false = refl

pub kind_1 : (d : List ℕ) → (word d 2 ≡ 4 → ⊥) → describe d ≡ describe_kind1 d
unfolding describe_up_to
kind_1 d other =
    let none : has_start (word d 2) ≡ false = ne_eqb (word d 2) 4 other in
    let first = take 7 (refusals_at 1 8 [] d) in
    let last = drop 7 (refusals_at 1 8 [] d) in
    let wide = is_wide 0 (get_or d 5 0) in
    let tests : description_refusals d ≡ first ++ ((wide, StartValue) ∷ last) = rw (none, or_no (eqb (word d 2) 1)) in
    let code : code_of d ≡ code_at 8 0 d = rw none in
    ap₂ answer (ap judge tests ∙ judge_without first last wide StartValue (wide-zero (get_or d 5 0))) code

pub mask_1 : (d : List ℕ) → (word d 2 ≡ 4 → ⊥) → mask_of d ≡ drop 8 d
mask_1 d other = ap (λ (t : Bool). drop (8 + cond t 2 0) d) (ne_eqb (word d 2) 4 other)

pub kind_4 : (d : List ℕ) → word d 2 ≡ 4 → describe d ≡ describe_kind4 d
unfolding describe_up_to
kind_4 d kind =
    let some : has_start (word d 2) ≡ true = eq-eqb (word d 2) 4 kind in
    let tests : description_refusals d ≡ refusals_at 4 10 ((is_wide (word d 8) (get_or d 5 0), StartValue) ∷ []) d = rw (some, or_yes (eqb (word d 2) 1)) in
    let code : code_of d ≡ code_at 10 (word d 8) d = rw some in
    ap₂ answer (ap judge tests) code

-- two numbers that are both greater by two
differs-both : (a b a' b' : ℕ) → a' ≡ a + 2 → b' ≡ b + 2 → differs a' b' ≡ differs a b
differs-both a b a' b' p q = go (eqb a b) refl
  where
    go : (t : Bool) → eqb a b ≡ t → differs a' b' ≡ differs a b
    go true e = ap not (eq-eqb a' b' (omega (arith, eqb-true a b e)) ∙ sym e)
    go false e = ap not (ne_eqb a' b' (λ s. eqb-false a b e (omega arith)) ∙ sym e)

-- a little-endian number of two bytes
two_bytes : (x : ℕ) → x % 256 + 256 * (x / 256) ≡ x
two_bytes x = omega arith

-- with start 0 a record of kind 4 has the answer of kind 1
pub start_0 : (d : List ℕ) → 8 ≤ length d → word d 2 ≡ 1 → describe (with_start 0 d) ≡ describe d
unfolding describe_up_to
start_0 d header kind =
    let d4 : List ℕ = with_start 0 d in
    let size : length d4 ≡ length d + 2 = omega (arith, length-drop 8 d) in
    let t1 : ltb (length d4) 10 ≡ ltb (length d) 8 = le-ltb (length d4) 10 (omega (arith, size)) ∙ sym (le-ltb (length d) 8 header) in
    let t2 : differs (word d4 0) (length d4) ≡ differs (word d 0) (length d) =
    differs-both (word d 0) (length d) (word d4 0) (length d4) (two_bytes (word d 0 + 2)) size in
    let t5 : differs (length d4) (10 + 2 ^ get_or d 4 0 / 8) ≡ differs (length d) (8 + 2 ^ get_or d 4 0 / 8) =
    differs-both (length d) (8 + 2 ^ get_or d 4 0 / 8) (length d4) (10 + 2 ^ get_or d 4 0 / 8) size (omega arith) in
    let none : has_start (word d 2) ≡ false = ne_eqb (word d 2) 4 (λ e. omega arith) in
    let one : eqb (word d 2) 1 ≡ true = eq-eqb (word d 2) 1 kind in
    rw (t1, t2, t5, none, one)

-- both have one mask
pub same-mask : (start : ℕ) (d : List ℕ) → word d 2 ≡ 1 → mask_of (with_start start d) ≡ mask_of d
same-mask start d kind = sym (ap (λ (k : ℕ). drop (mask_at k) d) kind)
