-- The lines of the schedule.
--   zonal, dated, timed  whether a line's cost has a subzone, a day, an hour
--   counts               which kinds are meant: a unit row's kind is its use, a cost row's its line
--   line                 a line from its columns in the table
--   schedule             the table of the seven lines
--   look_up              the line of a number in a table
--   line_of              the line of a number in the schedule
use Rattle.std.specs.Prelude.{ℕ, Bool, true, false, cond, ◌||◌, List, [], ◌∷◌, Some, None, Option, ◌==◌, nat_le}
use Rattle.lines.specs.declared.line.Area.{Area}
use Rattle.lines.specs.declared.line.Area.TheVariants.{Subzone, State}
use Rattle.lines.specs.declared.line.Span.{Span}
use Rattle.lines.specs.declared.line.Span.TheVariants.{Hour, Day, Period}
use Rattle.lines.specs.declared.line.Kinds.{Kinds}
use Rattle.lines.specs.declared.line.Kinds.TheVariants.{Every, Only, Flows, FlowsAndStations}
use Rattle.lines.specs.declared.line.Line.{Line}

abbrev pub zonal : Area → Bool
zonal Subzone = true
zonal State = false

abbrev pub dated : Span → Bool
dated Hour = true
dated Day = true
dated Period = false

abbrev pub timed : Span → Bool
timed Hour = true
timed Day = false
timed Period = false

-- flows are load, wheels through and other exports: uses 0, 1 and 2; station power is use 4
abbrev pub counts : Kinds → ℕ → Bool
counts Every k = true
counts (Only n) k = k == n
counts Flows k = nat_le k 2
counts FlowsAndStations k = nat_le k 2 || k == 4

abbrev pub line : ℕ → Area → Span → Kinds → Option ℕ → Line
line number area span counted station = record { number = number; area = area; span = span; counted = counted; station = station }

-- number, area, cell, counted uses, and the use of the station part's units, if there is one
abbrev pub schedule : List Line
schedule =
    -- 6.1.9.1
    line 1 Subzone Hour (Only 0) None ∷
    -- 6.1.9.2
    line 2 State Hour (Only 0) None ∷
    -- 6.1.10.1
    line 3 Subzone Hour (Only 0) (Some 4) ∷
    -- 6.1.11
    line 4 State Hour Flows (Some 4) ∷
    -- 6.1.12.3
    line 5 Subzone Day (Only 0) (Some 4) ∷
    -- 6.1.13, costs recovered
    line 6 State Period FlowsAndStations None ∷
    -- 6.1.13, funds paid out
    line 7 State Period FlowsAndStations None ∷ []

abbrev pub look_up : ℕ → List Line → Option Line
look_up n [] = None
look_up n (l ∷ ls) = cond (n == l.number) (Some l) (look_up n ls)

unfoldable pub line_of : ℕ → Option Line
line_of n = look_up n schedule
