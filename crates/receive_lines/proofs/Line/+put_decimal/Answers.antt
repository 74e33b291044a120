-- The digits of a tenth, if there are any, and the last digit.
use Rattle.std.proofs.Common.{◌≡◌, ℕ, ◌<◌, ◌%◌, [], ◌∷◌, sym, arith}
use Rattle.receive_lines.specs.Line.{digit, decimal}
use Rattle.receive_lines.proofs.Decimal.{decimal-small, decimal-more, length-small, length_more}
use Rattle.receive_lines.proofs.Putting.{put_then, put_equal}
use Rattle.receive_lines.proofs.Line.+put_decimal.Goals as goal
use Rattle.receive_lines.proofs.Line.+put_decimal.Goals.{then-n-ge10, else-n-ge10}

pub put_decimal-requires : goal.put_decimal-requires
put_decimal-requires t c = (omega arith, omega (arith, c.requires, length_more c.args.n c.if-n-ge10.true))

pub put_byte-requires : goal.put_byte-requires
put_byte-requires t c =
    let n = c.args.n in
    elim c.if-n-ge10.branch [
      | then-n-ge10 w ↦ rw w.self-is (omega (arith, c.requires, length_more n w.if-n-ge10.true))
      | else-n-ge10 w ↦ rw w.self-is (omega (arith, c.requires, length-small n (omega arith)))
    ]

-- of a number below ten the last digit is all
only_digit : (n : ℕ) → n < 10 → digit (n % 10) ∷ [] ≡ decimal n
only_digit n h = let same : n % 10 ≡ n = omega arith in rw same (sym (decimal-small n h))

pub returns : goal.returns
returns t c =
    let n = c.args.n in
    elim c.if-n-ge10.branch [
      | then-n-ge10 w ↦ put_equal (sym (decimal-more n w.if-n-ge10.true)) (put_then w.put_decimal.ensures (rw w.self-is at c.put_byte.ensures))
      | else-n-ge10 w ↦ put_equal (only_digit n (omega arith)) (rw w.self-is at c.put_byte.ensures)
    ]
