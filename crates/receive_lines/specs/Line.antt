-- Document 01, "Program `receive`": the lines that it prints, as lists of bytes (ASCII).
use Rattle.std.specs.Prelude.{cond, List, [], ◌∷◌, ◌++◌, ℕ, zero, suc, ◌+◌, ◌-◌, ◌/◌, ◌%◌, ltb}
use Prim.Native.Char.{code}
use Rattle.receive_lines.specs.Text.{text}

-- the decimal digit d
abbrev pub digit : ℕ → ℕ
digit d = code "0" + d

-- the decimal digits of n, if `places` digits suffice
unfoldable pub decimal_in : ℕ → ℕ → List ℕ
decimal_in zero n = []
decimal_in (suc places) n = cond (ltb n 10) (digit n ∷ []) (decimal_in places (n / 10) ++ (digit (n % 10) ∷ []))

-- a number in decimal, with no leading zero; `decimal_reads` and `decimal_leads` of proofs/Decimal.antt prove it
abbrev pub decimal : ℕ → List ℕ
decimal n = decimal_in (suc n) n

-- the lower-case hexadecimal digit d: 0 to 9, then a to f
abbrev pub hex_digit : ℕ → ℕ
hex_digit d = cond (ltb d 10) (code "0" + d) (code "a" + (d - 10))

-- bytes in lower-case hexadecimal, two digits a byte
abbrev pub hex : List ℕ → List ℕ
hex [] = []
hex (byte ∷ bytes) = hex_digit (byte / 16) ∷ hex_digit (byte % 16) ∷ hex bytes

-- the fields after a line's first word, a space before each, and one line feed after each line
abbrev pub fields : List (List ℕ) → List ℕ
fields [] = text "\n"
fields (field ∷ rest) = (text " " ++ field) ++ fields rest

-- a line: its first word, then its other fields
abbrev pub line : List ℕ → List (List ℕ) → List ℕ
line word rest = word ++ fields rest

-- `code N k r`
abbrev pub code_line : ℕ → ℕ → ℕ → List ℕ
code_line N k r = line (text "code") (decimal N ∷ decimal k ∷ decimal r ∷ [])

-- `ok trial steps payload`
abbrev pub ok_line : ℕ → ℕ → List ℕ → List ℕ
ok_line trial steps payload = line (text "ok") (decimal trial ∷ decimal steps ∷ hex payload ∷ [])

-- `no` and the refusal's number
abbrev pub no_line : ℕ → List ℕ
no_line refusal = line (text "no") (decimal refusal ∷ [])

-- `skip` and the kind's number
abbrev pub skip_line : ℕ → List ℕ
skip_line kind = line (text "skip") (decimal kind ∷ [])

-- `cut` alone
abbrev pub cut_line : List ℕ
cut_line = line (text "cut") []

-- `end` and the number of whole records
abbrev pub end_line : ℕ → List ℕ
end_line count = line (text "end") (decimal count ∷ [])
