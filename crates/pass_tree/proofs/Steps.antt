-- The steps of a node, added up value by value, and those that its prefix saves are s * 2^s together; so they depend on the layer and
-- on the length of the prefix alone.
use mathlib.Core.Path.{◌≡◌, refl, sym, ap, ◌∙◌}
use mathlib.Core.Bool.{Bool, true, false, cond}
use mathlib.Core.List.{List, [], ◌∷◌}
use Prim.Native.Nat.{ℕ, zero, suc, ◌+◌, ◌-◌, ◌*◌, ◌/◌, ◌%◌, ◌^◌, ◌<◌, ◌≤◌, min}
use native.Mathlib.Nat.{two-pow-succ, suc-mul, one-mul, mod-le, mod_self, mod-one, mod-eq_of_lt, mod-eq-sub-mod, mul-add-mod_self_right, mul-le-mul_right, le-div_iff_mul-le, div-mul-le_self, div-add-mod'}
use native.Mathlib.Omega.{arith}
use borrow.Author.Tests.{leb-true, leb-false}
use lib.Dec.{leb}
use lib.IntN.{ℤ}
use lib.ListN.{length, take, drop, length-take, length-drop}
use lib.Pow.{pow_pos}
use Rattle.values.specs.Values.{Rule, right_values, left_values}
use Rattle.values.proofs.Lengths.{length-right, length-left}
use Rattle.pass_tree.specs.Node.{Out, node}
use Rattle.pass_tree.specs.Skipped.{skipped}
use Rattle.pass_tree.proofs.Node.{left_of, left, right, leaf_cases, node_cases, node-forced, Short, short-left, short-right}

-- whole blocks of 2^s before q save all their steps
skipped-add : (s c q : ℕ) → skipped s (c * 2 ^ s + q) ≡ s * (c * 2 ^ s) + skipped s q
unfolding skipped
skipped-add zero c q = omega arith
skipped-add (suc s) c q =
    let m : ℕ = c * 2 ^ suc s in
    let e : m ≡ (c + c) * 2 ^ s = omega (arith, two-pow-succ s, ap (λ (k : ℕ). c * k) (two-pow-succ s)) in
    let below : skipped s (m + q) ≡ s * m + skipped s q =
    ap (λ (k : ℕ). skipped s (k + q)) e ∙ skipped-add s (c + c) q ∙ ap (λ (k : ℕ). s * k + skipped s q) (sym e) in
    let same : (m + q) % 2 ^ s ≡ q % 2 ^ s = ap (λ (k : ℕ). (k + q) % 2 ^ s) e ∙ mul-add-mod_self_right (c + c) (2 ^ s) q in
    omega (arith, mod-le q (2 ^ s), suc-mul s m)

pub skipped-none : (s : ℕ) → skipped s 0 ≡ 0
unfolding skipped
skipped-none zero = refl
skipped-none (suc s) = omega (arith, skipped-none s)

-- a longer prefix has as many whole blocks or more
blocks_mono : (s : ℕ) {q q' : ℕ} → q ≤ q' → q - q % 2 ^ s ≤ q' - q' % 2 ^ s
blocks_mono s {q} {q'} l =
    let h : ℕ = 2 ^ s in
    let fewer : q / h ≤ q' / h = (le-div_iff_mul-le (pow_pos s)).1 (omega (arith, div-mul-le_self q h)) in
    omega (arith, div-add-mod' q h, div-add-mod' q' h, mul-le-mul_right h fewer)

-- so it saves as much or more
pub skipped_mono : (s : ℕ) {q q' : ℕ} → q ≤ q' → skipped s q ≤ skipped s q'
unfolding skipped
skipped_mono zero l = omega arith
skipped_mono (suc s) l = omega (arith, skipped_mono s l, blocks_mono s l)

-- and above a leaf at least one step more for each index more
pub skipped_grows : (s : ℕ) {q q' : ℕ} → q ≤ q' → skipped (suc s) q + (q' - q) ≤ skipped (suc s) q'
unfolding skipped
skipped_grows zero {q} {q'} l = omega (arith, mod-one q, mod-one q')
skipped_grows (suc s) l = omega (arith, skipped_grows s l, blocks_mono (suc s) l)

-- at the end of the node all is saved
skipped-whole : (s : ℕ) → skipped s (2 ^ s) ≡ s * 2 ^ s
skipped-whole s =
    let e : 2 ^ s ≡ 1 * 2 ^ s + 0 = omega arith in
    ap (skipped s) e ∙ skipped-add s 1 0 ∙ omega (arith, skipped-none s, ap (λ (k : ℕ). s * k) (one-mul (2 ^ s)))

-- at its half, half of that
pub skipped-half : (s : ℕ) → skipped s (2 ^ s / 2) ≡ s * (2 ^ s / 2)
unfolding skipped
skipped-half zero = refl
skipped-half (suc s) =
    let e : 2 ^ suc s / 2 ≡ 2 ^ s = omega (arith, two-pow-succ s) in
    ap (skipped (suc s)) e ∙ omega (arith, skipped-whole s, mod_self (2 ^ s)) ∙ ap (λ (k : ℕ). suc s * k) (sym e)

-- what a prefix of two halves saves: what it saves in either half, and the left values if it covers the left half
skipped-suc : (s q : ℕ) → q < 2 ^ suc s → skipped (suc s) q + cond (leb (2 ^ s) q) 0 (2 ^ s) ≡ skipped s (min (2 ^ s) q) + skipped s (q - 2 ^ s) + 2 ^ s
unfolding skipped
skipped-suc s q l = go (leb (2 ^ s) q) refl
  where
    go : (t : Bool) → leb (2 ^ s) q ≡ t → skipped s q + (q - q % 2 ^ s) + cond t 0 (2 ^ s) ≡ skipped s (min (2 ^ s) q) + skipped s (q - 2 ^ s) + 2 ^ s
    go true e =
        let h : ℕ = 2 ^ s in
        let two = two-pow-succ s in
        let c : h ≤ q = leb-true h q e in
        let past : q ≡ 1 * h + (q - h) = omega arith in
        let m : min h q ≡ h = omega arith in
        let r : q % h ≡ q - h = mod-eq-sub-mod c ∙ mod-eq_of_lt (omega arith) in
        omega (arith, ap (skipped s) past ∙ skipped-add s 1 (q - h), ap (λ (k : ℕ). s * k) (one-mul h), ap (skipped s) m ∙ skipped-whole s)
    go false e =
        let h : ℕ = 2 ^ s in
        let c : q < h = leb-false h q e in
        let m : min h q ≡ q = omega arith in
        let z : q - h ≡ 0 = omega arith in
        omega (arith, mod-eq_of_lt c, ap (skipped s) m, ap (skipped s) z ∙ skipped-none s)

-- document 01, "Vectors at the edges": skipped steps for n = 3 at q = 0, 1, 6, 7, 8
abbrev pub StarredSkipped : Type 0
StarredSkipped = skipped 3 0 ∷ skipped 3 1 ∷ skipped 3 6 ∷ skipped 3 7 ∷ skipped 3 8 ∷ [] ≡ 0 ∷ 1 ∷ 16 ∷ 17 ∷ 24 ∷ []

pub skipped-starred : StarredSkipped
unfolding skipped
skipped-starred = refl

pub length-left_of : (h : ℕ) (p : List ℕ) (v : List ℤ) → length (left_of h p v) ≡ cond (leb h (length p)) 0 h
length-left_of h p v = go (leb h (length p))
  where
    go : (t : Bool) → length (cond t [] (left_values h v)) ≡ cond t 0 h
    go true = refl
    go false = length-left h v

pub steps_and_skipped : (s : ℕ) (p : List ℕ) (rule : ℕ → Rule) (v : List ℤ) → Short s p → (node s p rule v).work.steps + skipped s (length p) ≡ s * 2 ^ s
unfolding skipped
steps_and_skipped zero p rule v l = leaf_cases (λ o. o.work.steps + 0 ≡ 0) 0 p rule v (λ f. refl) (λ f. refl)
steps_and_skipped (suc s) p rule v l =
    let h : ℕ = 2 ^ s in
    let q : ℕ = length p in
    let lo : Out = left s h p rule v in
    let a : lo.work.steps + skipped s (min h q) ≡ s * h =
    ap (λ (k : ℕ). lo.work.steps + skipped s k) (sym (length-take h p)) ∙ steps_and_skipped s (take h p) rule (left_of h p v) (short-left s p) in
    let ro : Out = right s h p rule v in
    let b : ro.work.steps + skipped s (q - h) ≡ s * h =
    ap (λ (k : ℕ). ro.work.steps + skipped s k) (sym (length-drop h p)) ∙ steps_and_skipped s (drop h p) (λ i. rule (h + i)) (right_values h v lo.sums) (short-right s p l) in
    let two : suc s * 2 ^ suc s ≡ s * h + s * h + (h + h) = ap (λ (k : ℕ). suc s * k) (two-pow-succ s) ∙ omega arith in
    let saved : q ≡ 2 ^ suc s → skipped (suc s) q ≡ suc s * 2 ^ suc s = λ e. ap (skipped (suc s)) e ∙ skipped-whole (suc s) in
    node_cases (λ o. o.work.steps + skipped (suc s) q ≡ suc s * 2 ^ suc s) s p rule v
    (λ f. omega (arith, saved (omega arith)))
    (λ f. omega (arith, skipped-suc s q f, length-left_of h p v, length-right h v lo.sums))

-- a whole pass
pub steps_whole : (s : ℕ) (rule : ℕ → Rule) (v : List ℤ) → (node s [] rule v).work.steps ≡ s * 2 ^ s
steps_whole s rule v = omega (arith, steps_and_skipped s [] rule v (omega arith), skipped-none s)

-- a pass whose bits are all forced
pub steps_forced : (s : ℕ) (p : List ℕ) (rule : ℕ → Rule) (v : List ℤ) → length p ≡ 2 ^ s → (node s p rule v).work.steps ≡ 0
steps_forced s p rule v e = ap (λ (o : Out). o.work.steps) (node-forced s p rule v (omega arith))

-- prefixes of one length
pub steps_length : (s : ℕ) (p p' : List ℕ) (rule rule' : ℕ → Rule) (v v' : List ℤ) → length p ≡ length p' → Short s p → (node s p rule v).work.steps ≡ (node s p' rule' v').work.steps
steps_length s p p' rule rule' v v' e l =
    omega (arith, steps_and_skipped s p rule v l, steps_and_skipped s p' rule' v' (omega arith), ap (skipped s) e)
