-- The statement of a unit file.
--   unit_room, cost_room  the rows of the two tables: 2,048 and 512
--   settled_file          the settled book of a file and its sizes, with tables of free rows
--   has_costs             a line has costs; the free rows of a cost table hold none
--   line_rows             the rows of a line's bill by Running, none for a line without costs
--   behind                a text behind another, unless one of them is refused; the sooner refusal counts
--   lines_upto            the rows of the lines from 1 on, so many of them
--   most_lines            the number of lines
--   most_bytes            bytes that no statement passes
--   lines_of              the rows of all lines of a settled book, or the first refusal
--   refused_text          the row for a refusal: `refused` and its number
--   text_of               the rows of all lines of a file's settled book, or the first refusal
--   Told                  the refusal that the text tells, none where the file is accepted, and the text
--   statement_of          what is told of a file
--   Makes                 what a call that makes a text leaves in its buffer
--   told                  what the call answers beside the text: its length, and the refusal that it tells
use Rattle.std.specs.Prelude.{◌≡◌, ℕ, zero, suc, ◌+◌, Bool, cond, List, [], ◌++◌, length, replicate, Some, None, Ok, Err, codes, decimal, Option, Result, nat_lt}
use Rattle.tariff.specs.declared.refusal.Refusal.{Refusal}
use Rattle.tariff.specs.declared.rows.Sizes.{Sizes}
use Rattle.tariff.specs.Limits.{contributors}
use Rattle.tariff.specs.Refusals.{number}
use Rattle.buffer.specs.Putting.{pasted}
use Rattle.sharing.specs.Rules.{running}
use Rattle.lines.specs.Rows.{no_units, no_cost}
use Rattle.lines.specs.Totals.{line_costs}
use Rattle.book_rules.specs.Run.{State}
use Rattle.settling.specs.Settling.{file_sizes, settlement, settled}
use Rattle.line_rows.specs.Rows.{rows_of}
use Rattle.statement_report.specs.declared.Statement.{Statement}

abbrev pub unit_room : ℕ
unit_room = 2048

abbrev pub cost_room : ℕ
cost_room = 512

abbrev pub settled_file : Sizes → List ℕ → Result State Refusal
settled_file z bytes = settled (settlement z (replicate unit_room no_units) (replicate cost_room no_cost) (replicate contributors 0) bytes)

abbrev pub has_costs : State → ℕ → Bool
has_costs s n = nat_lt 0 (line_costs n s.costs)

abbrev pub line_rows : State → ℕ → Result (List ℕ) Refusal
line_rows s n = cond (has_costs s n) (rows_of running n s.book s.units s.costs) (Ok [])

abbrev pub behind : Result (List ℕ) Refusal → Result (List ℕ) Refusal → Result (List ℕ) Refusal
behind (Err e) next = Err e
behind (Ok before) (Err e) = Err e
behind (Ok before) (Ok text) = Ok (before ++ text)

abbrev pub lines_upto : State → ℕ → Result (List ℕ) Refusal
lines_upto s zero = Ok []
lines_upto s (suc n) = behind (lines_upto s n) (line_rows s (suc n))

abbrev pub most_lines : ℕ
most_lines = 7

-- bytes that no statement passes
abbrev pub most_bytes : ℕ
most_bytes = 65536

abbrev pub lines_of : State → Result (List ℕ) Refusal
lines_of s = lines_upto s most_lines

abbrev pub refused_text : Refusal → List ℕ
refused_text e = (codes "refused " ++ decimal (number e)) ++ codes "\n"

abbrev pub Told : Type 0
Told = Option Refusal × List ℕ

abbrev pub by_book : Result State Refusal → Result (List ℕ) Refusal
by_book (Ok s) = lines_of s
by_book (Err e) = Err e

abbrev pub by_sizes : Result Sizes Refusal → List ℕ → Result (List ℕ) Refusal
by_sizes (Ok z) bytes = by_book (settled_file z bytes)
by_sizes (Err e) bytes = Err e

-- the sizes of the header come first, and so does the opening that they can be refused by
abbrev pub text_of : List ℕ → Result (List ℕ) Refusal
text_of bytes = by_sizes (file_sizes bytes) bytes

abbrev pub by_text : Result (List ℕ) Refusal → Told
by_text (Ok text) = (None, text)
by_text (Err e) = (Some e, refused_text e)

abbrev pub statement_of : List ℕ → Told
statement_of bytes = by_text (text_of bytes)

abbrev pub told : Told → Statement
told t = record { length = length t.1; refusal = t.0 }

-- what a call that makes a text has left: the text from a place on, or the refusal

abbrev pub Makes : Result (List ℕ) Refusal → List ℕ → ℕ → Result ℕ Refusal → List ℕ → Type 0
Makes (Ok text) before place r after = (r ≡ Ok (place + length text)) × (after ≡ pasted before place text)
Makes (Err e) before place r after = r ≡ Err e
