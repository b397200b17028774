-- What the parts of a bill's calculation ask and leave.
--   Adds                     a column after something was added at each of its places
--   Rises                    a column of which no figure rose by more than a most
--   Upto                     no figure of a column is above a most
--   OnAxis                   a value of a field: 0 where the line does not need the field, and only there
--   Proper                   an area and a day that the line can have costs for
--   charged_in, stranded_in  what a customer is charged of some cells, and what of them is stranded
--   Credited                 what the station part of some areas and days has added to its two columns
--   line_figures             the figures of a line, or the first R that is too large
--   lengths_of               the places of the three columns, from a list of them
--   Billable                 what is known of rows and columns that are not refused
--   Sound                    what the calculation knows of a book's sizes and lawful rows
--   Spans                    a range has these values
use Rattle.std.specs.Prelude.{◌≡◌, ℕ, ◌+◌, ◌-◌, ◌<◌, ◌≤◌, Bool, true, false, List, length, Some, sum_by, Result, slice_index}
use Rattle.std.specs.List.{range_with_len, All}
use Rattle.std.specs.declared.ops.Range.{Range}
use Rattle.tariff.specs.declared.refusal.Refusal.{Refusal}
use Rattle.tariff.specs.declared.rows.Sizes.{Sizes}
use Rattle.tariff.specs.declared.rows.UnitRow.{UnitRow}
use Rattle.tariff.specs.declared.rows.CostRow.{CostRow}
use Rattle.tariff.specs.Limits.{most_customers, most_days, most_subzones, most_amount}
use Rattle.tariff.specs.Refusals.{first_of, answer}
use Rattle.lines.specs.declared.cell.Cell.{Cell}
use Rattle.lines.specs.declared.line.Line.{Line}
use Rattle.lines.specs.Lines.{zonal, dated, line_of}
use Rattle.lines.specs.Cells.{cell, cells}
use Rattle.lines.specs.Totals.{all_quantities, cost_in, line_costs}
use Rattle.sharing.specs.Rule.{Meaning}
use Rattle.bill_rules.specs.Bill.{share_of, stranded_of, station_of, credit_of, Figures, figures, too_large, Lengths, misfit}
use Rattle.bill_rules.specs.Laws.{LawfulRows}

abbrev pub Adds : List ℕ → List ℕ → (ℕ → ℕ) → Type 0
Adds before after f = (k : ℕ) → k < length before → slice_index after k ≡ slice_index before k + f k

abbrev pub Rises : List ℕ → List ℕ → ℕ → Type 0
Rises before after most = (k : ℕ) → k < length before → slice_index after k ≤ slice_index before k + most

abbrev pub Upto : List ℕ → ℕ → Type 0
Upto column most = (k : ℕ) → k < length column → slice_index column k ≤ most

abbrev pub OnAxis : Bool → ℕ → Type 0
OnAxis needed x = (needed ≡ true → 1 ≤ x) × (needed ≡ false → x ≡ 0)

pub record Proper (l : Line) (area day : ℕ) : Type 0 where
  pub area_on : OnAxis (zonal l.area) area
  pub day_on : OnAxis (dated l.span) day

abbrev pub charged_in : Meaning → Line → Sizes → List UnitRow → List CostRow → List Cell → ℕ → ℕ
charged_in m l z units costs cs k = sum_by (share_of m l z units costs k) cs

abbrev pub stranded_in : Meaning → Line → Sizes → List UnitRow → List CostRow → List Cell → ℕ
stranded_in m l z units costs cs = sum_by (stranded_of m l z units costs) cs

-- figures of at most `most` have been added for each of the areas and days
pub record Credited (m : Meaning) (l : Line) (z : Sizes) (units : List UnitRow) (costs : List CostRow) (ds : List Cell) (most : ℕ) (stations stations' credits credits' : List ℕ) : Type 0 where
  pub stations_added : Adds stations stations' (λ k. sum_by (station_of m l z units costs k) ds)
  pub credits_added : Adds credits credits' (λ k. sum_by (credit_of m l z units costs k) ds)
  pub stations_rise : Rises stations stations' most
  pub credits_rise : Rises credits credits' most

pub record Sound (l : Line) (z : Sizes) (units : List UnitRow) (costs : List CostRow) : Type 0 where
  pub customers_few : z.customers ≤ most_customers
  pub days_few : z.days ≤ most_days
  pub subzones_few : z.subzones ≤ most_subzones
  pub customers_known : All (λ (u : UnitRow). u.customer < z.customers) units
  pub units_fit : all_quantities units ≤ most_amount
  pub station_dated : (station : ℕ) → l.station ≡ Some station → dated l.span ≡ true
  pub costs_fit : (a d h : ℕ) → Proper l a d → cost_in l.number costs (cell a d h) ≤ most_amount
  pub costs_once : sum_by (cost_in l.number costs) (cells l z) ≡ line_costs l.number costs

abbrev pub line_figures : Meaning → Line → Sizes → List UnitRow → List CostRow → Result Figures Refusal
line_figures m l z units costs = answer (first_of (too_large m l z units costs)) (figures m l z units costs)

abbrev pub lengths_of : List ℕ → Lengths
lengths_of ns = record { charges = slice_index ns 0; stations = slice_index ns 1; credits = slice_index ns 2 }

pub record Billable (n : ℕ) (l : Line) (z : Sizes) (units : List UnitRow) (costs : List CostRow) (p : Lengths) : Type 0 where
  pub is : line_of n ≡ Some l
  pub fits : misfit z p ≡ false
  pub lawful : LawfulRows z units costs

abbrev pub Spans : Range ℕ → List ℕ → Type 0
Spans r xs = range_with_len r.start (r.end - r.start) ≡ xs
