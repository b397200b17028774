-- What holds of every bill, under every rule that keeps the laws of sharing.
--   Balanced        charges + station charges − credits + short − over + stranded is all costs of the line
--   Near            a figure is less than one cent from C × units ÷ T, and 0 where T is 0
--   Close           each share, station charge and credit is near its exact fraction
--   LawfulRows      no row of either table is unlawful, by a field or by the sum up to it
--   AgreeOn, Agree  two sets of rows agree on a line
--   LawsOfBilling   accepted bills balance and are close, and rows that agree are billed alike
use Rattle.std.specs.Prelude.{◌≡◌, ℕ, ◌+◌, ◌*◌, ◌<◌, List, ℤ, pos, ◌+ℤ◌, ◌-ℤ◌, Some, None, Ok, sum, Option}
use Rattle.std.specs.List.{All}
use Rattle.tariff.specs.declared.rows.Sizes.{Sizes}
use Rattle.tariff.specs.declared.rows.UnitRow.{UnitRow}
use Rattle.tariff.specs.declared.rows.CostRow.{CostRow}
use Rattle.tariff.specs.Refusals.{first_of}
use Rattle.lines.specs.declared.cell.Cell.{Cell}
use Rattle.lines.specs.declared.line.Line.{Line}
use Rattle.lines.specs.Lines.{line_of}
use Rattle.lines.specs.Cells.{cells, station_days}
use Rattle.lines.specs.Totals.{cost_in, line_costs}
use Rattle.lines.specs.Rows.{unit_faults, cost_faults}
use Rattle.sharing.specs.Rule.{Meaning, Lawful}
use Rattle.bill_rules.specs.Bill.{units_of, station_units_of, Figures, pool, counted, share_of, station_units, station_of, recovered, credit_of, Lengths, bill}

abbrev pub Balanced : ℕ → ℕ → ℕ → ℤ → ℤ → ℤ → ℕ → Type 0
Balanced charges stations credits short over stranded all =
    (((((pos charges +ℤ pos stations) -ℤ pos credits) +ℤ short) -ℤ over) +ℤ stranded) ≡ pos all

abbrev pub Balances : Figures → ℕ → Type 0
Balances f all = Balanced (sum f.charges) (sum f.stations) (sum f.credits) f.short f.over f.stranded all

pub record Near (figure C units T : ℕ) : Type 0 where
  pub idle : T ≡ 0 → figure ≡ 0
  pub below : 0 < T → figure * T < C * units + T
  pub above : 0 < T → C * units < figure * T + T

pub record Close (m : Meaning) (l : Line) (z : Sizes) (units : List UnitRow) (costs : List CostRow) : Type 0 where
  pub shares : (c : Cell) (k : ℕ) → k < z.customers →
      Near (share_of m l z units costs k c) (pool m l z units costs c) (units_of l.counted units c k) (sum (counted m l z units costs c))
  pub stations : (d : Cell) (k : ℕ) → k < z.customers →
      Near (station_of m l z units costs k d) (pool m l z units costs d) (station_units m l z units costs k d) (sum (counted m l z units costs d))
  pub credits : (d : Cell) (k : ℕ) → k < z.customers →
      Near (credit_of m l z units costs k d) (recovered m l z units costs d) (units_of l.counted units d k) (sum (counted m l z units costs d))

pub record LawfulRows (z : Sizes) (units : List UnitRow) (costs : List CostRow) : Type 0 where
  pub units_lawful : first_of (unit_faults z units) ≡ None
  pub costs_lawful : first_of (cost_faults z costs) ≡ None

-- equal counted units of every customer and equal costs in each cell, and with a station part equal
-- station units of every customer in each area and day
pub record AgreeOn (l : Line) (z : Sizes) (units units' : List UnitRow) (costs costs' : List CostRow) : Type 0 where
  pub counted_alike : All (λ c. (k : ℕ) → k < z.customers → units_of l.counted units c k ≡ units_of l.counted units' c k) (cells l z)
  pub pools_alike : All (λ c. cost_in l.number costs c ≡ cost_in l.number costs' c) (cells l z)
  pub stations_alike : All (λ d. (k : ℕ) → k < z.customers → station_units_of l.station units d k ≡ station_units_of l.station units' d k) (station_days l z)

-- on a line that does not exist there is nothing to differ
abbrev pub Agree : Option Line → Sizes → List UnitRow → List UnitRow → List CostRow → List CostRow → Type 0
Agree None z units units' costs costs' = Unit {0}
Agree (Some l) z units units' costs costs' = AgreeOn l z units units' costs costs'

pub record LawsOfBilling : Type 0 where
  pub balance : (m : Meaning) → Lawful m → (n : ℕ) (z : Sizes) (units : List UnitRow) (costs : List CostRow) (p : Lengths) (f : Figures) →
      bill m n z units costs p ≡ Ok f → Balances f (line_costs n costs)
  pub closeness : (m : Meaning) → Lawful m → (l : Line) (z : Sizes) (units : List UnitRow) (costs : List CostRow) → Close m l z units costs
  pub agreement : (m : Meaning) → Lawful m → (n : ℕ) (z : Sizes) (units units' : List UnitRow) (costs costs' : List CostRow) (p : Lengths) →
      LawfulRows z units costs → LawfulRows z units' costs' → Agree (line_of n) z units units' costs costs' → bill m n z units costs p ≡ bill m n z units' costs' p
