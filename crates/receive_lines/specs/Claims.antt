-- What the theorems of this crate state of its definitions.
use Rattle.std.specs.Prelude.{List, [], ◌∷◌, ℕ, ◌+◌, ◌-◌, ◌*◌}
use Rattle.receive_lines.specs.Line.{digit}

-- the number that decimal digits make after x
abbrev pub read_from : ℕ → List ℕ → ℕ
read_from x [] = x
read_from x (d ∷ ds) = read_from (x * 10 + (d - digit 0)) ds
