-- Which rows a book of some sizes allows.
--   unlawful_unit             a field of a unit row is out of range
--   wrong                     a field that a line needs is out of range, or one that it does not need is not 0
--   unlawful_cost             a field of a cost row is not one of its line, or there is no such line
--   unit_fault, cost_fault    the row at a place is unlawful by a field or by the sum up to it
--   unit_faults, cost_faults  the tests of all rows of a table, in their order
--   no_units, no_cost         what stands past the end of a table
use Rattle.std.specs.Prelude.{ℕ, ◌+◌, Bool, true, false, not, ◌||◌, List, map, length, take, Some, None, Option, ◌==◌, nat_le, nat_lt, slice_index_or}
use Rattle.std.specs.List.{range_with_len}
use Rattle.tariff.specs.declared.refusal.Refusal.{Refusal}
use Rattle.tariff.specs.declared.refusal.Refusal.TheVariants.{UnlawfulRow}
use Rattle.tariff.specs.declared.refusal.Table.TheVariants.{Unit as UnitTable, Cost as CostTable}
use Rattle.tariff.specs.declared.rows.Sizes.{Sizes}
use Rattle.tariff.specs.declared.rows.UnitRow.{UnitRow}
use Rattle.tariff.specs.declared.rows.CostRow.{CostRow}
use Rattle.tariff.specs.Limits.{hours_of_day, most_amount}
use Rattle.lines.specs.declared.line.Line.{Line}
use Rattle.lines.specs.Sizes.{outside}
use Rattle.lines.specs.Lines.{zonal, dated, timed, line_of}
use Rattle.lines.specs.Totals.{all_quantities, alike}

-- customers from 0; days, hours and subzones from 1; uses 0 to 4
abbrev pub unlawful_unit : Sizes → UnitRow → Bool
unlawful_unit z u =
    nat_le z.customers u.customer
    || (outside 1 z.days u.day
    || (outside 1 hours_of_day u.hour
    || (outside 1 z.subzones u.subzone
    || (nat_lt 4 u.usage || nat_lt most_amount u.quantity))))

abbrev pub wrong : Bool → ℕ → ℕ → Bool
wrong true most x = outside 1 most x
wrong false most x = not (x == 0)

abbrev pub unlawful_for : Option Line → Sizes → CostRow → Bool
unlawful_for None z r = true
unlawful_for (Some l) z r =
    wrong (zonal l.area) z.subzones r.subzone
    || (wrong (dated l.span) z.days r.day
    || (wrong (timed l.span) hours_of_day r.hour
    || outside 1 most_amount r.amount))

abbrev pub unlawful_cost : Sizes → CostRow → Bool
unlawful_cost z r = unlawful_for (line_of r.line) z r

abbrev pub no_units : UnitRow
no_units = record { customer = 0; day = 0; hour = 0; subzone = 0; usage = 0; quantity = 0 }

abbrev pub no_cost : CostRow
no_cost = record { line = 0; subzone = 0; day = 0; hour = 0; amount = 0 }

abbrev pub unit_fault : Sizes → List UnitRow → ℕ → Bool
unit_fault z units i = unlawful_unit z (slice_index_or units i no_units) || nat_lt most_amount (all_quantities (take (i + 1) units))

abbrev pub cost_fault : Sizes → List CostRow → ℕ → Bool
cost_fault z costs i = unlawful_cost z (slice_index_or costs i no_cost) || nat_lt most_amount (alike (slice_index_or costs i no_cost) (take (i + 1) costs))

abbrev pub unit_faults : Sizes → List UnitRow → List (Bool × Refusal)
unit_faults z units = map (λ i. (unit_fault z units i, UnlawfulRow UnitTable i)) (range_with_len 0 (length units))

abbrev pub cost_faults : Sizes → List CostRow → List (Bool × Refusal)
cost_faults z costs = map (λ i. (cost_fault z costs i, UnlawfulRow CostTable i)) (range_with_len 0 (length costs))
