-- Document 01, "Program `receive`": the text of its lines as bytes (ASCII).
use Rattle.std.specs.Prelude.{List, [] as nil, ◌∷◌ as cons, ℕ}
use Prim.Native.Char.{code}
use Prim.Native.String.{String, [], ◌∷◌}

-- the code of each character
abbrev pub text : String → List ℕ
text [] = nil
text (c ∷ s) = cons (code c) (text s)
