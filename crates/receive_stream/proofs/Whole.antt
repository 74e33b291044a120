-- Inputs that begin with a whole record, and inputs that do not.
use mathlib.Core.Path.{◌≡◌, refl, ap₂}
use mathlib.Core.Bool.{Bool, true, false, ◌&&◌, and-eq-true_iff}
use mathlib.Core.List.{List, ◌++◌}
use Prim.Native.Nat.{ℕ, ◌+◌, ◌*◌, ◌≤◌}
use native.Mathlib.Omega.{arith}
use borrow.Author.Tests.{leb-true, le-leb}
use lib.Dec.{leb}
use lib.ListN.{length, get_or-append}
use Rattle.code.specs.Description.{word}
use Rattle.receive_stream.specs.Stream.{starts_whole}

-- what the three tests say
pub record Starts (input : List ℕ) : Type 0 where
  pub header : 4 ≤ length input
  pub least : 4 ≤ word input 0
  pub most : word input 0 ≤ length input

pub starts-whole : {input : List ℕ} → Starts input → starts_whole input ≡ true
starts-whole {input} s =
    let rest = (and-eq-true_iff (leb 4 (word input 0)) (leb (word input 0) (length input))).1 (le-leb _ _ s.least, le-leb _ _ s.most) in
    (and-eq-true_iff (leb 4 (length input)) (leb 4 (word input 0) && leb (word input 0) (length input))).1 (le-leb _ _ s.header, rest)

pub whole-starts : (input : List ℕ) → starts_whole input ≡ true → Starts input
whole-starts input e =
    let p = (and-eq-true_iff (leb 4 (length input)) (leb 4 (word input 0) && leb (word input 0) (length input))).0 e in
    let q = (and-eq-true_iff (leb 4 (word input 0)) (leb (word input 0) (length input))).0 p.1 in
    record { header = leb-true _ _ p.0; least = leb-true _ _ q.0; most = leb-true _ _ q.1 }

-- no whole record, if one of them fails
pub none-whole : (input : List ℕ) → (Starts input → ⊥) → starts_whole input ≡ false
none-whole input f = go (starts_whole input) refl
  where
    go : (t : Bool) → starts_whole input ≡ t → t ≡ false
    go true e = absurd (f (whole-starts input e))
    go false e = refl

-- the length is in the first two bytes
pub word-append : (r rest : List ℕ) → 4 ≤ length r → word (r ++ rest) 0 ≡ word r 0
word-append r rest l = ap₂ (λ (x y : ℕ). x + 256 * y) (get_or-append r rest 0 0 (omega arith)) (get_or-append r rest 0 1 (omega arith))
