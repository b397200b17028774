-- What the code holds, by its values.
--   shown_settled  a settled book with its tables, or the refusal
--   shown_figures  the figures of a bill
--   shown_figured  the figures of a bill, or the refusal
--   shown_report   whether the bill is accepted, and the bytes of the table or of the line for the refusal
use Rattle.std.specs.Prelude.{ℕ, Bool, true, false, List, Ok, Err, vec_items, string_bytes, Result}
use Rattle.std.specs.declared.string.String.{String}
use Rattle.tariff.specs.declared.refusal.Refusal.{Refusal}
use Rattle.bill_rules.specs.Bill.{Figures}
use Rattle.book_rules.specs.Run.{State, closed}
use Rattle.book.specs.Shown.{frozen_book}
use Rattle.bill_report.specs.declared.error.BillError.TheVariants.{Refused}
use Rattle.bill_report.specs.declared.settled.Settled.{Settled}
use Rattle.bill_report.specs.declared.figured.Figured.{Figured}
use Rattle.bill_report.specs.Failing.{line_of}

abbrev pub shown_settled : Result Settled Refusal → Result State Refusal
shown_settled (Ok s) = Ok (closed (frozen_book s.book) (vec_items s.units) (vec_items s.costs) (vec_items s.marks))
shown_settled (Err e) = Err e

abbrev pub shown_figures : Figured → Figures
shown_figures f = record { charges = vec_items f.charges; stations = vec_items f.stations; credits = vec_items f.credits; short = f.remainders.short; over = f.remainders.over; stranded = f.remainders.stranded }

abbrev pub shown_figured : Result Figured Refusal → Result Figures Refusal
shown_figured (Ok f) = Ok (shown_figures f)
shown_figured (Err e) = Err e

abbrev pub shown_report : {Z : Type 0} → Result (String Z) Refusal → Bool × List ℕ
shown_report (Ok text) = (true, string_bytes text)
shown_report (Err e) = (false, line_of (Refused e))
