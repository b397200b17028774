-- The bill of a line, from a rule's meaning and the rows of a book.
--   units_of, units_in         a customer's units of some uses in a cell, and those of each customer
--   Figures                    what a bill comes to
--   pool, counted              the costs of a cell, and each customer's counted units
--   share_of                   what a customer is charged of a cell
--   short_of, stranded_of      what a cell leaves of its pool: with units, and without
--   station_charge             what station units are charged of a day's costs
--   station_units, station_of  a customer's station units of an area and day, and its station charge
--   recovered                  R, the station charges of all customers
--   credit_of, over_of         what a customer is credited of R, and R less the credits
--   column                     one figure a customer, added up over some cells
--   figures                    the figures of a line
--   Lengths, misfit            the places of the three columns, and whether they are not one a customer
--   too_large                  the tests of R, in the order of areas and then days
--   bill_refusal               when a bill is refused
--   bill                       the bill: the first refusal, or the figures
--   told, column_after         what a bill answers beside its columns, and what it leaves in one
use Rattle.std.specs.Prelude.{ℕ, ◌*◌, ◌/◌, Bool, cond, not, ◌&&◌, ◌||◌, List, [], ◌∷◌, ◌++◌, map, ℤ, pos, ◌+ℤ◌, ◌-ℤ◌, is_some, Some, None, Ok, Err, fold, sum_by, sum, Option, Result, ◌==◌, nat_lt, slice_index}
use Rattle.std.specs.List.{range_with_len}
use Rattle.tariff.specs.declared.refusal.Refusal.{Refusal}
use Rattle.tariff.specs.declared.refusal.Refusal.TheVariants.{TableUnfit, FieldOutOfRange, StationChargesTooLarge}
use Rattle.tariff.specs.declared.rows.Sizes.{Sizes}
use Rattle.tariff.specs.declared.rows.UnitRow.{UnitRow}
use Rattle.tariff.specs.declared.rows.CostRow.{CostRow}
use Rattle.tariff.specs.Limits.{most_amount}
use Rattle.tariff.specs.Refusals.{first_of, answer}
use Rattle.lines.specs.declared.cell.Cell.{Cell}
use Rattle.lines.specs.declared.line.Kinds.{Kinds}
use Rattle.lines.specs.declared.line.Kinds.TheVariants.{Only}
use Rattle.lines.specs.declared.line.Line.{Line}
use Rattle.lines.specs.Lines.{line_of}
use Rattle.lines.specs.Cells.{cells, station_days}
use Rattle.lines.specs.Totals.{belongs, unit_place, cost_in}
use Rattle.lines.specs.Rows.{unit_faults, cost_faults}
use Rattle.sharing.specs.Rule.{Meaning}
use Rattle.bill_rules.specs.declared.Remainders.{Remainders}

-- what a unit row adds to a customer's units
abbrev pub unit_part : Kinds → Cell → ℕ → UnitRow → ℕ
unit_part uses c k u = cond (belongs uses c u.usage (unit_place u) && u.customer == k) u.quantity 0

abbrev pub units_of : Kinds → List UnitRow → Cell → ℕ → ℕ
units_of uses units c k = sum_by (unit_part uses c k) units

abbrev pub units_in : Kinds → List UnitRow → ℕ → Cell → List ℕ
units_in uses units customers c = map (units_of uses units c) (range_with_len 0 customers)

abbrev pub station_units_of : Option ℕ → List UnitRow → Cell → ℕ → ℕ
station_units_of None units d k = 0
station_units_of (Some station) units d k = units_of (Only station) units d k

-- C × s ÷ T without the fraction, and 0 where T is 0, as a quotient by 0 is
abbrev pub station_charge : ℕ → ℕ → ℕ → ℕ
station_charge pool station all = pool * station / all

abbrev pub sum_z : {X : Type 0} → (X → ℤ) → List X → ℤ
sum_z f xs = fold (λ a x. a +ℤ f x) (pos 0) xs

pub record Figures : Type 0 where
  pub charges : List ℕ
  pub stations : List ℕ
  pub credits : List ℕ
  pub short : ℤ
  pub over : ℤ
  pub stranded : ℤ

module _ (meaning : Meaning) (l : Line) (z : Sizes) (units : List UnitRow) (costs : List CostRow) where
  abbrev pub pool : Cell → ℕ
  pool c = cost_in l.number costs c

  abbrev pub counted : Cell → List ℕ
  counted c = units_in l.counted units z.customers c

  abbrev pub shares : Cell → List ℕ
  shares c = meaning (pool c) (counted c)

  abbrev pub share_of : ℕ → Cell → ℕ
  share_of k c = slice_index (shares c) k

  -- C less the shares, where there are units
  abbrev pub short_of : Cell → ℤ
  short_of c = cond (sum (counted c) == 0) (pos 0) (pos (pool c) -ℤ pos (sum (shares c)))

  -- all of C, where there are none
  abbrev pub stranded_of : Cell → ℕ
  stranded_of c = cond (sum (counted c) == 0) (pool c) 0

  -- the station part, of an area and day: its costs and units are those of all hours
  abbrev pub station_units : ℕ → Cell → ℕ
  station_units k d = station_units_of l.station units d k

  abbrev pub station_of : ℕ → Cell → ℕ
  station_of k d = station_charge (pool d) (station_units k d) (sum (counted d))

  abbrev pub recovered : Cell → ℕ
  recovered d = sum_by (λ k. station_of k d) (range_with_len 0 z.customers)

  abbrev pub credits_in : Cell → List ℕ
  credits_in d = meaning (recovered d) (counted d)

  abbrev pub credit_of : ℕ → Cell → ℕ
  credit_of k d = slice_index (credits_in d) k

  abbrev pub over_of : Cell → ℤ
  over_of d = pos (recovered d) -ℤ pos (sum (credits_in d))

  abbrev pub column : (ℕ → Cell → ℕ) → List Cell → List ℕ
  column f cs = map (λ k. sum_by (f k) cs) (range_with_len 0 z.customers)

  abbrev pub figures : Figures
  figures = record {
    charges = column share_of (cells l z);
    stations = column station_of (station_days l z);
    credits = column credit_of (station_days l z);
    short = sum_z short_of (cells l z);
    over = sum_z over_of (station_days l z);
    stranded = pos (sum_by stranded_of (cells l z));
  }

  abbrev pub too_large_at : Cell → Bool × Refusal
  too_large_at d = (nat_lt most_amount (recovered d), StationChargesTooLarge d.area d.day)

  abbrev pub too_large : List (Bool × Refusal)
  too_large = map too_large_at (station_days l z)

pub record Lengths : Type 0 where
  pub charges : ℕ
  pub stations : ℕ
  pub credits : ℕ

abbrev pub misfit : Sizes → Lengths → Bool
misfit z p = not (p.charges == z.customers) || (not (p.stations == z.customers) || not (p.credits == z.customers))

-- a line that does not exist has no figures, and its bill is refused before they are asked for
abbrev pub no_figures : Figures
no_figures = record { charges = []; stations = []; credits = []; short = pos 0; over = pos 0; stranded = pos 0 }

abbrev pub figures_for : Meaning → Option Line → Sizes → List UnitRow → List CostRow → Figures
figures_for m None z units costs = no_figures
figures_for m (Some l) z units costs = figures m l z units costs

abbrev pub too_large_for : Meaning → Option Line → Sizes → List UnitRow → List CostRow → List (Bool × Refusal)
too_large_for m None z units costs = []
too_large_for m (Some l) z units costs = too_large m l z units costs

-- the columns, the line, each unit row, each cost row, each R
abbrev pub bill_refusal : Meaning → ℕ → Sizes → List UnitRow → List CostRow → Lengths → Option Refusal
bill_refusal m n z units costs p =
    first_of ((misfit z p, TableUnfit) ∷ (not (is_some (line_of n)), FieldOutOfRange)
    ∷ (unit_faults z units ++ (cost_faults z costs ++ too_large_for m (line_of n) z units costs)))

abbrev pub bill : Meaning → ℕ → Sizes → List UnitRow → List CostRow → Lengths → Result Figures Refusal
bill m n z units costs p = answer (bill_refusal m n z units costs p) (figures_for m (line_of n) z units costs)

abbrev pub told : Result Figures Refusal → Result Remainders Refusal
told (Ok f) = Ok (record { short = f.short; over = f.over; stranded = f.stranded })
told (Err e) = Err e

abbrev pub column_after : Result Figures Refusal → (Figures → List ℕ) → List ℕ → List ℕ
column_after (Ok f) which before = which f
column_after (Err e) which before = before
