-- How long the rows of a line can be.
--   most_row, most_sum, most_line  bytes that a row, a sum row and the rows of a line never pass
--   stationed, most_rows           whether a line has a station part, and bytes that the rows of its accepted bill never pass
use Rattle.std.specs.Prelude.{ℕ, Bool, false, cond, is_some, Some, None, Option}
use Rattle.lines.specs.declared.line.Line.{Line}
use Rattle.lines.specs.Lines.{line_of}

-- no number of 64 bits takes more than 20 bytes: a row has five with their spaces, a sum row seven
abbrev pub most_row : ℕ
most_row = 105

abbrev pub most_sum : ℕ
most_sum = 151

abbrev pub most_line : ℕ
most_line = 27648

abbrev pub stationed : Option Line → Bool
stationed None = false
stationed (Some l) = is_some l.station

-- 256 rows of 49 bytes, or of 25 where there is no station part, and a sum row of 123
abbrev pub most_rows : ℕ → ℕ
most_rows n = cond (stationed (line_of n)) 12667 6523
