-- Totals of rows of any kind: those of some kinds that lie in a cell.
--   belongs                 a row of this kind at this place is of these kinds and in the cell
--   part                    what a row adds to a total
--   total_in                the total of a table of rows
--   unit_place, cost_place  where a row stands
--   cost_in                 the costs of a line in a cell
--   line_costs              all costs of a line
--   all_quantities          the quantities of all unit rows
--   alike                   the costs that have one limit with a cost row: those of its line in its area on its day
use Rattle.std.specs.Prelude.{ℕ, Bool, cond, ◌&&◌, List, sum_by}
use Rattle.tariff.specs.declared.rows.UnitRow.{UnitRow}
use Rattle.tariff.specs.declared.rows.CostRow.{CostRow}
use Rattle.lines.specs.declared.cell.Cell.{Cell}
use Rattle.lines.specs.declared.cell.Place.{Place}
use Rattle.lines.specs.declared.line.Kinds.{Kinds}
use Rattle.lines.specs.declared.line.Kinds.TheVariants.{Every, Only}
use Rattle.lines.specs.Lines.{counts}
use Rattle.lines.specs.Cells.{cell, holds}

abbrev pub belongs : Kinds → Cell → ℕ → Place → Bool
belongs kinds c kind place = counts kinds kind && holds c place

abbrev pub part : {R : Type 0} → (R → ℕ) → (R → Place) → (R → ℕ) → Kinds → Cell → R → ℕ
part kinded placed amounts kinds c row = cond (belongs kinds c (kinded row) (placed row)) (amounts row) 0

abbrev pub total_in : {R : Type 0} → (R → ℕ) → (R → Place) → (R → ℕ) → Kinds → Cell → List R → ℕ
total_in kinded placed amounts kinds c rows = sum_by (part kinded placed amounts kinds c) rows

abbrev pub unit_place : UnitRow → Place
unit_place u = record { subzone = u.subzone; day = u.day; hour = u.hour }

abbrev pub cost_place : CostRow → Place
cost_place r = record { subzone = r.subzone; day = r.day; hour = r.hour }

abbrev pub unit_use : UnitRow → ℕ
unit_use u = u.usage

abbrev pub unit_quantity : UnitRow → ℕ
unit_quantity u = u.quantity

abbrev pub cost_line : CostRow → ℕ
cost_line r = r.line

abbrev pub cost_amount : CostRow → ℕ
cost_amount r = r.amount

abbrev pub cost_in : ℕ → List CostRow → Cell → ℕ
cost_in n costs c = total_in cost_line cost_place cost_amount (Only n) c costs

abbrev pub line_costs : ℕ → List CostRow → ℕ
line_costs n costs = cost_in n costs (cell 0 0 0)

abbrev pub all_quantities : List UnitRow → ℕ
all_quantities units = total_in unit_use unit_place unit_quantity Every (cell 0 0 0) units

-- a period line's cost has no area and no day, so that all costs of the line are alike
abbrev pub alike : CostRow → List CostRow → ℕ
alike r costs = cost_in r.line costs (cell r.subzone r.day 0)
