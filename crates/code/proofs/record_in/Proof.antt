-- `code::record_in` meets its contract: a length field past the end takes all bytes.
use mathlib.Core.Path.{◌≡◌, refl, sym, ap, ◌∙◌}
use mathlib.Core.Bool.{Bool, true, false}
use mathlib.Core.List.{List}
use Prim.Native.Nat.{ℕ, min}
use native.Mathlib.Omega.{arith}
use borrow.Author.Rules.{rules}
use borrow.Author.Tests.{leb-true, leb-false}
use lib.Dec.{leb}
use lib.ListN.{length, take}
use lib.Seq.{length-take-le, take_all, take-length}
use Rattle.code.specs.Description.{word}
use Rattle.code.proofs.record_in.Statement.{statement}
use Rattle.code.proofs.record_in.Tie as tie

module _ (c : tie.After-min-size) where
  abbrev bytes : List ℕ
  bytes = c.before.before.before.args.bytes.now

  size_is : c.min-size.result ≡ min (word bytes 0) (length bytes)
  size_is = c.min-size.ensures ∙ ap (λ (k : ℕ). min k (length bytes)) c.before.read_word.ensures

-- the first bytes are those of the smaller number
take_min : (n : ℕ) (l : List ℕ) → take (min n (length l)) l ≡ take n l
take_min n l = go (leb n (length l)) refl
  where
    go : (t : Bool) → leb n (length l) ≡ t → take (min n (length l)) l ≡ take n l
    go true e =
        let q : min n (length l) ≡ n = omega (arith, leb-true n (length l) e) in
        ap (λ (k : ℕ). take k l) q
    go false e =
        let q : min n (length l) ≡ length l = omega (arith, leb-false n (length l) e) in
        ap (λ (k : ℕ). take k l) q ∙ take-length l ∙ sym (take_all n l (omega (arith, leb-false n (length l) e)))

pub record_in_spec : {M : Type 1} → statement M
record_in_spec =
    tie.close
    (tie.spec
    (λ c κs. search rules)
    (λ c. search rules)
    (λ c κs. search rules)
    (λ c. sym (length-take-le c.min-size.result (bytes c) (omega (arith, size_is c))))
    (λ c. ap (λ (k : ℕ). take k (bytes c)) (size_is c) ∙ take_min (word (bytes c) 0) (bytes c)))
