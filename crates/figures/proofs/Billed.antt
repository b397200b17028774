-- The worked bills, by computing them.
use Rattle.std.proofs.Common.{refl}
use Rattle.lines.specs.Lines.{line_of}
use Rattle.figures.specs.Bills.{WorkedBills}

pub worked_bills : WorkedBills
unfolding line_of
worked_bills = record {
  stranded_hour = refl;
  by_running = refl;
  by_down = refl;
  large_station = refl;
  load_alone = refl;
  flows = refl;
  flows_and_stations = refl;
  most_recovered = refl;
  too_much = refl;
}
