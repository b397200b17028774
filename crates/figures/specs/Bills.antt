-- Bills worked by hand, as theorems of the definitions that the bill's contract cites.
--   three, five   the sizes of two books of one day and one subzone
--   unit, cost    a unit row and a cost row of the first day and subzone
--   evenly        three columns with one place a customer
--   billed        figures from the columns, short, over and stranded
--   hour_of_load  600 and 300 of load, and station power
--   each_use      five customers with 100 units each, of uses 0 to 4
--   WorkedBills   the list
use Rattle.std.specs.Prelude.{◌≡◌, ℕ, List, [], ◌∷◌, pos, Ok, Err, Result}
use Rattle.tariff.specs.declared.refusal.Refusal.{Refusal}
use Rattle.tariff.specs.declared.refusal.Refusal.TheVariants.{StationChargesTooLarge}
use Rattle.tariff.specs.declared.rows.Sizes.{Sizes}
use Rattle.tariff.specs.declared.rows.UnitRow.{UnitRow}
use Rattle.tariff.specs.declared.rows.CostRow.{CostRow}
use Rattle.sharing.specs.Rules.{down, running}
use Rattle.bill_rules.specs.Bill.{Figures, Lengths, bill}

abbrev pub three : Sizes
three = record { customers = 3; days = 1; subzones = 1 }

abbrev pub five : Sizes
five = record { customers = 5; days = 1; subzones = 1 }

abbrev pub unit : ℕ → ℕ → ℕ → ℕ → UnitRow
unit customer hour use' quantity = record { customer = customer; day = 1; hour = hour; subzone = 1; usage = use'; quantity = quantity }

abbrev pub cost : ℕ → ℕ → ℕ → ℕ → ℕ → CostRow
cost line subzone day hour amount = record { line = line; subzone = subzone; day = day; hour = hour; amount = amount }

abbrev pub evenly : ℕ → Lengths
evenly customers = record { charges = customers; stations = customers; credits = customers }

abbrev pub billed : List ℕ → List ℕ → List ℕ → ℕ → ℕ → ℕ → Result Figures Refusal
billed charges stations credits short over stranded =
    Ok (record { charges = charges; stations = stations; credits = credits; short = pos short; over = pos over; stranded = pos stranded })

abbrev pub hour_of_load : ℕ → ℕ → List UnitRow
hour_of_load hour station = unit 0 hour 0 600 ∷ unit 1 hour 0 300 ∷ unit 2 hour 4 station ∷ []

abbrev pub each_use : List UnitRow
each_use = unit 0 1 0 100 ∷ unit 1 1 1 100 ∷ unit 2 1 2 100 ∷ unit 3 1 3 100 ∷ unit 4 1 4 100 ∷ []

abbrev pub none : List ℕ
none = 0 ∷ 0 ∷ 0 ∷ 0 ∷ 0 ∷ []

pub record WorkedBills : Type 0 where
  -- line 3 with 500 in an hour without units and 1,000 in the next
  pub stranded_hour : bill running 3 three (hour_of_load 2 90) (cost 3 1 1 1 500 ∷ cost 3 1 1 2 1000 ∷ []) (evenly 3) ≡ billed (666 ∷ 334 ∷ 0 ∷ []) (0 ∷ 0 ∷ 150 ∷ []) (100 ∷ 50 ∷ 0 ∷ []) 0 0 500
  -- one hour of line 3 with 1,000
  pub by_running : bill running 3 three (hour_of_load 1 90) (cost 3 1 1 1 1000 ∷ []) (evenly 3) ≡ billed (666 ∷ 334 ∷ 0 ∷ []) (0 ∷ 0 ∷ 100 ∷ []) (66 ∷ 34 ∷ 0 ∷ []) 0 0 0
  pub by_down : bill down 3 three (hour_of_load 1 90) (cost 3 1 1 1 1000 ∷ []) (evenly 3) ≡ billed (666 ∷ 333 ∷ 0 ∷ []) (0 ∷ 0 ∷ 100 ∷ []) (66 ∷ 33 ∷ 0 ∷ []) 1 1 0
  -- a station's charge may exceed the pool
  pub large_station : bill running 3 three (hour_of_load 1 1800) (cost 3 1 1 1 1000 ∷ []) (evenly 3) ≡ billed (666 ∷ 334 ∷ 0 ∷ []) (0 ∷ 0 ∷ 2000 ∷ []) (1333 ∷ 667 ∷ 0 ∷ []) 0 0 0
  -- which uses a line counts
  pub load_alone : bill running 2 five each_use (cost 2 0 1 1 300 ∷ []) (evenly 5) ≡ billed (300 ∷ 0 ∷ 0 ∷ 0 ∷ 0 ∷ []) none none 0 0 0
  pub flows : bill running 4 five each_use (cost 4 0 1 1 300 ∷ []) (evenly 5) ≡ billed (100 ∷ 100 ∷ 100 ∷ 0 ∷ 0 ∷ []) (0 ∷ 0 ∷ 0 ∷ 0 ∷ 100 ∷ []) (33 ∷ 33 ∷ 34 ∷ 0 ∷ 0 ∷ []) 0 0 0
  pub flows_and_stations : bill running 6 five each_use (cost 6 0 0 0 300 ∷ []) (evenly 5) ≡ billed (75 ∷ 75 ∷ 75 ∷ 0 ∷ 75 ∷ []) none none 0 0 0
  -- a day with T of 1 and the most costs: one station unit pays it all, two are refused
  pub most_recovered : bill down 3 three (unit 0 1 0 1 ∷ unit 2 1 4 1 ∷ []) (cost 3 1 1 1 2147483647 ∷ []) (evenly 3) ≡ billed (2147483647 ∷ 0 ∷ 0 ∷ []) (0 ∷ 0 ∷ 2147483647 ∷ []) (2147483647 ∷ 0 ∷ 0 ∷ []) 0 0 0
  pub too_much : bill down 3 three (unit 0 1 0 1 ∷ unit 2 1 4 2 ∷ []) (cost 3 1 1 1 2147483647 ∷ []) (evenly 3) ≡ Err (StationChargesTooLarge 1 1)
