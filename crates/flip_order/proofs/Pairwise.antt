-- Lists by their members and by their places.
use mathlib.Core.Path.{◌≡◌, sym, subst}
use mathlib.Core.List.{List, [], ◌∷◌, ◌++◌, Memᴰ}
use Prim.Native.Nat.{ℕ, zero, suc, ◌<◌}
use native.Mathlib.Omega.{arith}
use lib.ListN.{length, get_or}
use Rattle.laws.proofs.Indices.{member-at}
use Rattle.laws.proofs.Pairs.{Pairs, none, one, pairs_snoc}
use Rattle.flip_order.specs.Claims.{Pairwise}

-- a member stands at a place
pub place_of : {i : ℕ} {is : List ℕ} → Memᴰ i is → (a : ℕ) × (a < length is) × (get_or is a 0 ≡ i)
place_of (Memᴰ.head e) = (0, omega arith, sym e)
place_of (Memᴰ.tail m) = let p = place_of m in (suc p.0, omega arith, p.2)

module _ {R : ℕ → ℕ → Type 0} where
  pub pairwise_nil : Pairwise R []
  pairwise_nil = record { at = λ a b l m. absurd (omega arith) }

  pub pairwise_cons : {i : ℕ} {is : List ℕ} → ((j : ℕ) → Memᴰ j is → R i j) → Pairwise R is → Pairwise R (i ∷ is)
  pairwise_cons {i} {is} f p = record { at = go }
    where
      go : (a b : ℕ) → a < b → b < length (i ∷ is) → R (get_or (i ∷ is) a 0) (get_or (i ∷ is) b 0)
      go a zero l m = absurd (omega arith)
      go zero (suc b) l m = f (get_or is b 0) (member-at 0 is b (omega arith))
      go (suc a) (suc b) l m = p.at a b (omega arith) (omega arith)

  pub pairwise_tail : {i : ℕ} {is : List ℕ} → Pairwise R (i ∷ is) → Pairwise R is
  pairwise_tail p = record { at = λ a b l m. p.at (suc a) (suc b) (omega arith) (omega arith) }

  -- the first is related to each of the others
  pub pairwise_head : {i : ℕ} {is : List ℕ} → Pairwise R (i ∷ is) → (j : ℕ) → Memᴰ j is → R i j
  pairwise_head {i} p j m = let q = place_of m in subst (R i) q.2 (p.at 0 (suc q.0) (omega arith) (omega arith))

  pub pairwise_of : {is : List ℕ} → Pairs R is → Pairwise R is
  pairwise_of none = pairwise_nil
  pairwise_of (one f p) = pairwise_cons f (pairwise_of p)

  pub pairs_of : (is : List ℕ) → Pairwise R is → Pairs R is
  pairs_of [] p = none
  pairs_of (i ∷ is) p = one (pairwise_head p) (pairs_of is (pairwise_tail p))

  -- one more at the end
  pub pairwise_snoc : (is : List ℕ) (i : ℕ) → ((j : ℕ) → Memᴰ j is → R j i) → Pairwise R is → Pairwise R (is ++ (i ∷ []))
  pairwise_snoc is i f p = pairwise_of (pairs_snoc is i f (pairs_of is p))
