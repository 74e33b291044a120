-- Lists read and written by segments: the words in which contracts speak of arrays. Nothing here need be believed.
use Rattle.std.specs.Prelude.{List, ◌++◌, ℕ, ◌+◌, take, drop, length}

-- the n elements of w from `at` on
abbrev pub segment : {A : Type 0} → List A → ℕ → ℕ → List A
segment w at n = take n (drop at w)

-- w with ys in the place of its elements from `at` on
unfoldable pub splice : {A : Type 0} → List A → ℕ → List A → List A
splice w at ys = take at w ++ (ys ++ drop (at + length ys) w)
