-- The description that is held after a record: the record itself if it is an accepted description, else the one held before.
use mathlib.Core.Path.{◌≡◌, refl, ap, ◌∙◌}
use mathlib.Core.Bool.{Bool, true, false, cond}
use mathlib.Core.List.{List}
use Prim.Native.Nat.{ℕ}
use lib.Dec.{eqb}
use Rattle.refusal.specs.declared.Refusal.{Refusal}
use Rattle.refusal.specs.Judge.{number_of}
use Rattle.code.specs.declared.Code.{Code}
use Rattle.code.specs.Code.{code_length}
use Rattle.code.specs.Description.{word, is_description, describe, on_description}
use Rattle.receive_lines.specs.Line.{code_line, no_line, skip_line}
use Rattle.receive_frame.specs.Frame.{channel_line}
use Rattle.receive_record.specs.Respond.{description_response, responded}
use Rattle.std.specs.Prelude.{Err, Ok}
use Rattle.code.specs.Clauses.{Description}

module _ (held bytes : List ℕ) where
  -- what is held, by the test of the kind and by an answer of `describe`
  abbrev by_kind : Bool → List ℕ
  by_kind t = (cond t (description_response held bytes) (cond (eqb (word bytes 2) 2) (channel_line held bytes, held) (skip_line (word bytes 2), held))).1

  abbrev by_answer : Description → List ℕ
  by_answer x = (on_description {X = List ℕ × List ℕ} x (λ y. (no_line (number_of y), held)) (λ c. (code_line (code_length c) c.k c.r, bytes))).1

  description-held : is_description (word bytes 2) ≡ true → (responded held bytes).1 ≡ by_answer (describe bytes)
  unfolding responded description_response
  description-held kind = ap by_kind kind

  pub held-accepted : (c : Code) → is_description (word bytes 2) ≡ true → describe bytes ≡ Ok c → (responded held bytes).1 ≡ bytes
  held-accepted c kind e = description-held kind ∙ ap by_answer e

  pub held_refused : (x : Refusal) → is_description (word bytes 2) ≡ true → describe bytes ≡ Err x → (responded held bytes).1 ≡ held
  held_refused x kind e = description-held kind ∙ ap by_answer e

  pub held_other : is_description (word bytes 2) ≡ false → (responded held bytes).1 ≡ held
  unfolding responded
  held_other kind = ap by_kind kind ∙ same (eqb (word bytes 2) 2)
    where
      same : (t : Bool) → (cond {A = List ℕ × List ℕ} t (channel_line held bytes, held) (skip_line (word bytes 2), held)).1 ≡ held
      same true = refl
      same false = refl
