-- What is known of a record from the bytes read so far.
use mathlib.Core.Path.{◌≡◌, refl, subst}
use mathlib.Core.Logic.{◌⊎◌, inl, inr, ⊎_elim}
use mathlib.Core.List.{List, ◌++◌}
use Prim.Native.Nat.{ℕ, ◌-◌, ◌≤◌, ◌<◌}
use native.Mathlib.Omega.{arith}
use lib.Dec.{ltb, ltb→lt, nltb→le}
use lib.ListN.{length, length-append}
use Rattle.laws.proofs.Choice.{cond_ind}
use Rattle.code.specs.Description.{word}
use Rattle.receive_stream.specs.declared.Ahead.{Ahead}
use Rattle.receive_stream.specs.declared.Ahead.TheVariants.{Whole, Missing, Short}
use Rattle.receive_stream.specs.Clauses.{ahead_of}
use Rattle.receive_stream.proofs.Whole.{word-append}

-- what the tests say, from each answer
abbrev Says : List ℕ → Ahead → Type 0
Says bytes Whole = (4 ≤ length bytes) × (4 ≤ word bytes 0) × (word bytes 0 ≤ length bytes)
Says bytes (Missing n) = ((length bytes < 4) × (n ≡ 4 - length bytes)) ⊎ ((4 ≤ length bytes) × (length bytes < word bytes 0) × (n ≡ word bytes 0 - length bytes))
Says bytes Short = (4 ≤ length bytes) × (word bytes 0 < 4)

module _ (bytes : List ℕ) where
  pub says : (a : Ahead) → ahead_of bytes ≡ a → Says bytes a
  says a e =
      subst (Says bytes) e
      (cond_ind (Says bytes) (ltb (length bytes) 4) _ _
      (λ few. inl (ltb→lt _ _ few, refl))
      (λ header. cond_ind (Says bytes) (ltb (word bytes 0) 4) _ _
      (λ short. (nltb→le _ _ header, ltb→lt _ _ short))
      (λ least. cond_ind (Says bytes) (ltb (length bytes) (word bytes 0)) _ _
      (λ part. inr (nltb→le _ _ header, ltb→lt _ _ part, refl))
      (λ whole. (nltb→le _ _ header, nltb→le _ _ least, nltb→le _ _ whole)))))

  -- with no more bytes than are missing, the record's length is not passed
  pub within : {n : ℕ} (more : List ℕ) → ahead_of bytes ≡ Missing n → length more ≤ n → 4 ≤ word (bytes ++ more) 0 → length (bytes ++ more) ≤ word (bytes ++ more) 0
  within {n} more e h m =
      let long = length-append bytes more in
      ⊎_elim (λ x. omega arith) (λ x. omega (arith, word-append bytes more x.0)) (says (Missing n) e)
