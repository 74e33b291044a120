-- Values with the signs of a codeword and no zero among them decode to the bits of that codeword.
use mathlib.Core.Path.{◌≡◌, refl, sym, ap, ap₂, ◌∙◌, subst, subst₂}
use mathlib.Core.Bool.{false}
use mathlib.Core.List.{List, [], ◌∷◌, ◌++◌}
use Prim.Native.Nat.{ℕ, zero, suc, ◌+◌, ◌%◌, ◌^◌, ◌<◌}
use native.Mathlib.Nat.{two-pow-succ}
use native.Mathlib.Omega.{arith}
use borrow.Author.Tests.{lt-leb}
use lib.Dec.{leb}
use lib.IntN.{ℤ, pos}
use lib.ListN.{length, get_or, take, drop, length-drop, take-append-drop, get_or-append}
use lib.Pow.{pow_pos}
use lib.Seq.{get_or-take, get_or-drop, get_or-append-add, length-take-le, take-nil, drop-nil}
use Rattle.laws.proofs.Table.{get_or-table}
use Rattle.laws.proofs.Indices.{by-halves}
use Rattle.bits.specs.Claims.{Bits}
use Rattle.bits.proofs.Lists.{bits-take, bits-drop}
use Rattle.transform.specs.Transform.{transformed, xors}
use Rattle.transform.proofs.Transformed.{bits-transformed, transformed-zero, transformed-suc}
use Rattle.transform.proofs.Xors.{length-xors, get_or-xors}
use Rattle.values.specs.Values.{decided, Rule, frozen, usual, opposite, right_values, left_values, f, hard}
use Rattle.values.proofs.Favours.{Favours, f_favours, g_favours}
use Rattle.pass_tree.specs.Node.{Out, leaf, join, node}
use Rattle.pass_tree.proofs.Node.{node-leaf, node-halves, length-leaves}

-- n values with the signs of the bits x
abbrev pub Signs : ℕ → List ℕ → List ℤ → Type 0
Signs n x v = (j : ℕ) → j < n → Favours (get_or x j 0) (get_or v j (pos 0))

-- an index whose rule can decide the bit x: usual, or frozen if x is 0
abbrev pub Carries : Rule → ℕ → Type 0
Carries frozen x = x ≡ 0
Carries usual x = Unit
Carries opposite x = ⊥

decided-right : (rule : Rule) (x : ℕ) (z : ℤ) → Carries rule x → hard z ≡ x → decided rule z ≡ x
decided-right frozen x z c e = sym c
decided-right usual x z c e = e
decided-right opposite x z c e = absurd c

-- a whole pass at two halves: no bit is forced in either
pub plain_halves : (s : ℕ) (rule : ℕ → Rule) (v : List ℤ) → node (suc s) [] rule v ≡ (let h = 2 ^ s in let l = node s [] rule (left_values h v) in join h (left_values h v) l (right_values h v l.sums) (node s [] (λ i. rule (h + i)) (right_values h v l.sums)))
plain_halves s rule v =
    let none : leb (2 ^ s) 0 ≡ false = lt-leb (2 ^ s) 0 (pow_pos s) in
    node-halves s [] rule v (pow_pos (suc s)) ∙ rw (none, take-nil (2 ^ s), drop-nil (2 ^ s))

-- the results of a pass that recovers u
pub record Recovers (s : ℕ) (u : List ℕ) (o : Out) : Type 0 where
  pub bits : o.bits ≡ u
  pub sums : o.sums ≡ transformed s u
  pub leaves : Signs (2 ^ s) u o.leaves

one_bit : (u : List ℕ) (rule : Rule) (z : ℤ) → length u ≡ 1 → Bits u → Carries rule (get_or u 0 0) → Favours (get_or u 0 0) z → Recovers 0 u (leaf rule z)
one_bit [] rule z len b c p = absurd (omega arith)
one_bit (x ∷ []) rule z len b c p =
    let e : decided rule z ∷ [] ≡ x ∷ [] = ap (λ (k : ℕ). k ∷ []) (decided-right rule x z c p.sign) in
    record { bits = e; sums = e ∙ sym (transformed-zero (x ∷ []) refl b); leaves = only }
  where
    only : Signs 1 (x ∷ []) (z ∷ [])
    only zero l = p
    only (suc j) l = absurd (omega arith)
one_bit (x ∷ y ∷ u) rule z len b c p = absurd (omega arith)

module _ (s : ℕ) (u : List ℕ) where
  abbrev h : ℕ
  h = 2 ^ s

  abbrev L : List ℕ
  L = transformed s (take h u)

  abbrev R : List ℕ
  R = transformed s (drop h u)

  -- the signs of a codeword, by its halves
  module _ (v : List ℤ) (signs : Signs (2 ^ suc s) (transformed (suc s) u) v) where
    front : (j : ℕ) → j < h → Favours ((get_or L j 0 + get_or R j 0) % 2) (get_or v j (pos 0))
    front j l =
        subst (λ (x : ℕ). Favours x (get_or v j (pos 0)))
        (ap (λ (x : List ℕ). get_or x j 0) (transformed-suc s u) ∙ get_or-append (xors h L R) R 0 j (omega (arith, length-xors h L R)) ∙ get_or-xors h L R j l)
        (signs j (omega (arith, two-pow-succ s)))

    back : (j : ℕ) → j < h → Favours (get_or R j 0) (get_or v (h + j) (pos 0))
    back j l =
        subst (λ (x : ℕ). Favours x (get_or v (h + j) (pos 0)))
        (ap (λ (x : List ℕ). get_or x (h + j) 0) (transformed-suc s u)
        ∙ ap (λ (k : ℕ). get_or (xors h L R ++ R) (k + j) 0) (sym (length-xors h L R)) ∙ get_or-append-add (xors h L R) R j 0)
        (signs (h + j) (omega (arith, two-pow-succ s)))

    left-signs : Signs h L (left_values h v)
    unfolding left_values
    left-signs j l =
        let x : ((get_or L j 0 + get_or R j 0) % 2 + get_or R j 0) % 2 ≡ get_or L j 0 = omega (arith, (bits-transformed s (take h u)).at j) in
        subst (Favours (get_or L j 0)) (sym (get_or-table _ h j (pos 0) l))
        (subst (λ (y : ℕ). Favours y (f (get_or v j (pos 0)) (get_or v (h + j) (pos 0)))) x (f_favours (front j l) (back j l)))

    right-signs : Signs h R (right_values h v L)
    unfolding right_values
    right-signs j l =
        subst (Favours (get_or R j 0)) (sym (get_or-table _ h j (pos 0) l))
        (g_favours (get_or L j 0) ((bits-transformed s (take h u)).at j) ((bits-transformed s (drop h u)).at j) (front j l) (back j l))

-- two halves that are recovered
both : (s : ℕ) (u : List ℕ) (left right : List ℤ) (l r : Out) → length l.leaves ≡ 2 ^ s → Recovers s (take (2 ^ s) u) l → Recovers s (drop (2 ^ s) u) r → Recovers (suc s) u (join (2 ^ s) left l right r)
both s u left right l r long pl pr =
    let h : ℕ = 2 ^ s in
    record {
      bits = ap₂ (λ (a b : List ℕ). a ++ b) pl.bits pr.bits ∙ take-append-drop h u;
      sums = ap₂ (λ (a b : List ℕ). xors h a b ++ b) pl.sums pr.sums ∙ sym (transformed-suc s u);
      leaves =
          by-halves (λ j. Favours (get_or u j 0) (get_or (l.leaves ++ r.leaves) j (pos 0))) s
          (λ j m. subst₂ Favours (get_or-take h u j 0 m) (sym (get_or-append l.leaves r.leaves (pos 0) j (omega arith))) (pl.leaves j m))
          (λ j m. subst₂ Favours (get_or-drop h u j 0)
          (sym (ap (λ (k : ℕ). get_or (l.leaves ++ r.leaves) (k + j) (pos 0)) (sym long) ∙ get_or-append-add l.leaves r.leaves j (pos 0))) (pr.leaves j m));
    }

pub noiseless : (s : ℕ) (u : List ℕ) (rule : ℕ → Rule) (v : List ℤ) → length u ≡ 2 ^ s → Bits u → ((i : ℕ) → i < 2 ^ s → Carries (rule i) (get_or u i 0)) → Signs (2 ^ s) (transformed s u) v → Recovers s u (node s [] rule v)
noiseless zero u rule v len b c signs =
    let single = transformed-zero u len b in
    subst (Recovers 0 u) (sym (node-leaf [] rule v (omega arith)))
    (one_bit u (rule 0) (get_or v 0 (pos 0)) len b (c 0 (omega arith)) (subst (λ (x : List ℕ). Favours (get_or x 0 0) (get_or v 0 (pos 0))) single (signs 0 (omega arith))))
noiseless (suc s) u rule v len b c signs =
    let h : ℕ = 2 ^ s in
    let two = two-pow-succ s in
    let l : Out = node s [] rule (left_values h v) in
    let pl : Recovers s (take h u) l =
    noiseless s (take h u) rule (left_values h v) (length-take-le h u (omega arith)) (bits-take h u b)
    (λ i m. subst (Carries (rule i)) (sym (get_or-take h u i 0 m)) (c i (omega arith))) (left-signs s u v signs) in
    let r : Out = node s [] (λ i. rule (h + i)) (right_values h v l.sums) in
    let pr : Recovers s (drop h u) r =
    noiseless s (drop h u) (λ i. rule (h + i)) (right_values h v l.sums) (length-drop h u ∙ omega arith) (bits-drop h u b)
    (λ i m. subst (Carries (rule (h + i))) (sym (get_or-drop h u i 0)) (c (h + i) (omega arith)))
    (subst (λ (x : List ℕ). Signs h (transformed s (drop h u)) (right_values h v x)) (sym pl.sums) (right-signs s u v signs)) in
    let long : length l.leaves ≡ h = omega (arith, length-leaves s [] rule (left_values h v) (omega arith)) in
    subst (Recovers (suc s) u) (sym (plain_halves s rule v)) (both s u (left_values h v) (right_values h v l.sums) l r long pl pr)
