-- Lists in order, as document 01 orders indices in "Flip decoding, full and restarted". An order says whether one element comes before another.
use Rattle.std.specs.Prelude.{Bool, true, false, ◌&&◌, ◌||◌, cond, List, [], ◌∷◌, ℕ, ltb, eqb}

-- x in its place among elements that are in order
unfoldable pub insert_by : {A : Type 0} → (A → A → Bool) → A → List A → List A
insert_by before x [] = x ∷ []
insert_by before x (y ∷ ys) = cond (before x y) (x ∷ y ∷ ys) (y ∷ insert_by before x ys)

-- elements in order
unfoldable pub sort_by : {A : Type 0} → (A → A → Bool) → List A → List A
sort_by before [] = []
sort_by before (x ∷ xs) = insert_by before x (sort_by before xs)

-- whether one list of numbers comes before another: compared from the first entry, lower first
abbrev pub earlier : List ℕ → List ℕ → Bool
earlier is [] = false
earlier [] (j ∷ js) = true
earlier (i ∷ is) (j ∷ js) = ltb i j || (eqb i j && earlier is js)
