-- What the calls of the code give back, as answers of the machine.
--   told, told_pass, told_row  an answer without a value, with a pass, with a row number
--   frozen                     a freeze: the frozen book, or the refusal with the open book
--   told_book                  the book that opening gives
--   told_figures               a bill: what it answers and what it leaves in the columns, or the refusal
use Rattle.std.specs.Prelude.{ℕ, List, Ok, Err, Result}
use Rattle.tariff.specs.declared.refusal.Refusal.{Refusal}
use Rattle.tariff.specs.declared.rows.UnitRow.{UnitRow}
use Rattle.tariff.specs.declared.rows.CostRow.{CostRow}
use Rattle.bill_rules.specs.declared.Remainders.{Remainders}
use Rattle.book_rules.specs.Machine.{Book}
use Rattle.book_rules.specs.Run.{Answer, accepted, gave, row, froze, stayed_open, billed, refused, Outcome, opened, closed}
use Rattle.book.specs.declared.states.FrozenBook.{FrozenBook}
use Rattle.book.specs.declared.states.OpenBook.{OpenBook}
use Rattle.book.specs.declared.states.Pass.{Pass as Token}
use Rattle.book.specs.Shown.{open_book, frozen_book, pass_of}

abbrev pub told : Result (Unit {0}) Refusal → Answer
told (Ok _) = accepted
told (Err e) = refused e

abbrev pub told_pass : Result Token Refusal → Answer
told_pass (Ok p) = gave (pass_of p)
told_pass (Err e) = refused e

abbrev pub told_row : Result ℕ Refusal → Answer
told_row (Ok n) = row n
told_row (Err e) = refused e

abbrev pub frozen : List UnitRow → List CostRow → List ℕ → Result FrozenBook (OpenBook × Refusal) → Outcome
frozen units costs marks (Ok b) = record { state = closed (frozen_book b) units costs marks; answer = froze (frozen_book b) }
frozen units costs marks (Err b) = record { state = opened (open_book b.0) units costs marks; answer = stayed_open (open_book b.0) b.1 }

abbrev pub told_book : Result OpenBook Refusal → Result Book Refusal
told_book (Ok b) = Ok (open_book b)
told_book (Err e) = Err e

abbrev pub told_figures : Result Remainders Refusal → List ℕ → List ℕ → List ℕ → Answer
told_figures (Ok r) charges stations credits =
    billed (record { charges = charges; stations = stations; credits = credits; short = r.short; over = r.over; stranded = r.stranded })
told_figures (Err e) charges stations credits = refused e
