-- A unit file settled in a book of its own: opened with the file's sizes, loaded through one pass, and
-- frozen.
--   file_sizes    the sizes in the first record of a file, which has to be the header
--   Reached       where some calls have led, and the refusal that ended them, if any
--   goes_on       what comes after a call, unless the call was refused
--   sooner        the first of two refusals
--   loaded_with   the load of a file with a pass, which is handed in behind it
--   loaded_in     contributor 0 is admitted to load a file
--   frozen_after  the book is frozen, unless there was a refusal
--   Settlement    the frozen book or the refusal, and what the tables then hold
--   settlement    a file settled with some sizes and tables
--   settled       the frozen book with its tables, or the refusal
--   left, leaves  what the code's calls leave, in these words
use Rattle.std.specs.Prelude.{ℕ, List, Some, None, Ok, Err, Option, Result}
use Rattle.tariff.specs.declared.refusal.Refusal.{Refusal}
use Rattle.tariff.specs.declared.rows.Sizes.{Sizes}
use Rattle.tariff.specs.declared.rows.UnitRow.{UnitRow}
use Rattle.tariff.specs.declared.rows.CostRow.{CostRow}
use Rattle.unit_file.specs.Records.{Item}
use Rattle.unit_file.specs.Reading.{open_refusal as file_refusal, record_at}
use Rattle.book_rules.specs.Machine.{Book, Pass, new_pass, open_refusal}
use Rattle.book_rules.specs.Run.{State, Outcome, admit, hand_in, freeze, step, final, at_opening, closed}
use Rattle.book.specs.declared.states.FrozenBook.{FrozenBook}
use Rattle.book.specs.Load.{report_refusal, refusal_in, header_in, load_of}
use Rattle.book.specs.Shown.{frozen_book}

abbrev pub sizes_in : Option Refusal → Result (Option Item) Refusal → Result Sizes Refusal
sizes_in (Some e) first = Err e
sizes_in None (Err e) = Err e
sizes_in None (Ok first) = header_in first

abbrev pub file_sizes : List ℕ → Result Sizes Refusal
file_sizes bytes = sizes_in (file_refusal bytes) (record_at bytes 1)

pub record Reached : Type 0 where
  pub refusal : Option Refusal
  pub state : State

abbrev pub goes_on : Option Refusal → State → Reached → Reached
goes_on (Some e) s after = record { refusal = Some e; state = s }
goes_on None s after = after

abbrev pub sooner : Option Refusal → Option Refusal → Option Refusal
sooner (Some e) later = Some e
sooner None later = later

-- where a call leads
abbrev pub reached_by : Outcome → Reached
reached_by o = record { refusal = refusal_in o.answer; state = o.state }

-- the pass is handed in whether the load stopped or not
abbrev pub handed_in : Option Refusal → State → Pass → Reached
handed_in refusal s p = record { refusal = sooner refusal (refusal_in (step s (hand_in p)).answer); state = (step s (hand_in p)).state }

abbrev pub loaded_with : State → Pass → List ℕ → Reached
loaded_with s p bytes = handed_in (report_refusal (load_of s p bytes).report) (final s (load_of s p bytes).calls) p

abbrev pub loaded_in : State → List ℕ → Reached
loaded_in s bytes = goes_on (refusal_in (step s (admit 0)).answer) (step s (admit 0)).state (loaded_with (step s (admit 0)).state (new_pass s.book 0) bytes)

abbrev pub frozen_after : Reached → Reached
frozen_after r = goes_on r.refusal r.state (reached_by (step r.state freeze))

pub record Settlement : Type 0 where
  pub outcome : Result Book Refusal
  pub units : List UnitRow
  pub costs : List CostRow
  pub marks : List ℕ

abbrev pub book_or : Option Refusal → Book → Result Book Refusal
book_or (Some e) b = Err e
book_or None b = Ok b

abbrev pub settled_at : Reached → Settlement
settled_at r = record { outcome = book_or r.refusal r.state.book; units = r.state.units; costs = r.state.costs; marks = r.state.marks }

-- a refused opening leaves all tables as they were
abbrev pub opens_to : Option Refusal → List UnitRow → List CostRow → List ℕ → Reached → Settlement
opens_to (Some e) units costs marks after = record { outcome = Err e; units = units; costs = costs; marks = marks }
opens_to None units costs marks after = settled_at after

-- the book has the number 0
abbrev pub settlement : Sizes → List UnitRow → List CostRow → List ℕ → List ℕ → Settlement
settlement z units costs marks bytes = opens_to (open_refusal z marks) units costs marks (frozen_after (loaded_in (at_opening z 0 units costs) bytes))

abbrev pub state_or : Result Book Refusal → List UnitRow → List CostRow → List ℕ → Result State Refusal
state_or (Ok b) units costs marks = Ok (closed b units costs marks)
state_or (Err e) units costs marks = Err e

abbrev pub settled : Settlement → Result State Refusal
settled s = state_or s.outcome s.units s.costs s.marks

-- what the code's calls leave

abbrev pub left : Result (Unit {0}) Refusal → State → Reached
left (Ok _) s = record { refusal = None; state = s }
left (Err e) s = record { refusal = Some e; state = s }

abbrev pub told_frozen : Result FrozenBook Refusal → Result Book Refusal
told_frozen (Ok b) = Ok (frozen_book b)
told_frozen (Err e) = Err e

abbrev pub leaves : Result FrozenBook Refusal → List UnitRow → List CostRow → List ℕ → Settlement
leaves r units costs marks = record { outcome = told_frozen r; units = units; costs = costs; marks = marks }
