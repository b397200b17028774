-- The cells of a line: one area at one time. 0 stands for the whole state, for all days, for all hours.
--   cell                   a cell from its area, day and hour
--   in_area                which subzones belong to an area
--   at_time                which days belong to a day, and hours to an hour, of a cell
--   holds                  whether a place lies in a cell
--   axis                   the values of a field: 1 to a most where the line needs it, else 0 alone
--   Inclusive              a range has these values
--   areas, days, hours     those of a line in a book of some sizes
--   hour_cells, day_cells  the cells of one area and day, and of one area
--   cells                  all cells of a line
--   station_days           each area and day of a line with a station part
use Rattle.std.specs.Prelude.{◌≡◌, ℕ, Bool, true, false, cond, ◌&&◌, ◌||◌, List, [], ◌∷◌, map, Some, None, Option, ◌==◌}
use Rattle.std.specs.declared.ops.RangeInclusive.{RangeInclusive}
use Rattle.std.specs.Range.{range_inclusive_start, range_inclusive_end, range_inclusive_exhausted}
use Rattle.std.specs.List.{range_with_len, flat_map}
use Rattle.tariff.specs.declared.rows.Sizes.{Sizes}
use Rattle.tariff.specs.Limits.{hours_of_day}
use Rattle.lines.specs.declared.cell.Cell.{Cell}
use Rattle.lines.specs.declared.cell.Place.{Place}
use Rattle.lines.specs.declared.line.Line.{Line}
use Rattle.lines.specs.Lines.{zonal, dated, timed}

abbrev pub cell : ℕ → ℕ → ℕ → Cell
cell area day hour = record { area = area; day = day; hour = hour }

abbrev pub in_area : ℕ → ℕ → Bool
in_area area subzone = area == 0 || area == subzone

abbrev pub at_time : ℕ → ℕ → Bool
at_time time t = time == 0 || time == t

abbrev pub holds : Cell → Place → Bool
holds c p = in_area c.area p.subzone && (at_time c.day p.day && at_time c.hour p.hour)

abbrev pub axis : Bool → ℕ → List ℕ
axis true most = range_with_len 1 most
axis false most = 0 ∷ []

-- a range that has not begun holds the values of a field
pub record Inclusive (r : RangeInclusive ℕ) (needed : Bool) (most : ℕ) : Type 0 where
  pub first : range_inclusive_start r ≡ cond needed 1 0
  pub last : range_inclusive_end r ≡ cond needed most 0
  pub fresh : range_inclusive_exhausted r ≡ false

abbrev pub areas : Line → Sizes → List ℕ
areas l z = axis (zonal l.area) z.subzones

abbrev pub days : Line → Sizes → List ℕ
days l z = axis (dated l.span) z.days

abbrev pub hours : Line → List ℕ
hours l = axis (timed l.span) hours_of_day

abbrev pub hour_cells : Line → ℕ → ℕ → List Cell
hour_cells l a d = map (cell a d) (hours l)

abbrev pub day_cells : Line → Sizes → ℕ → List Cell
day_cells l z a = flat_map (hour_cells l a) (days l z)

abbrev pub cells : Line → Sizes → List Cell
cells l z = flat_map (day_cells l z) (areas l z)

-- the days of one area, each with all its hours
abbrev pub whole_days : Sizes → ℕ → List Cell
whole_days z a = map (λ d. cell a d 0) (range_with_len 1 z.days)

abbrev pub days_for : Option ℕ → Line → Sizes → List Cell
days_for None l z = []
days_for (Some use') l z = flat_map (whole_days z) (areas l z)

abbrev pub station_days : Line → Sizes → List Cell
station_days l z = days_for l.station l z
