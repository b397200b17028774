-- A book of the code with its tables and passes, as a journal of the rules.
--   shown_pass                    what a pass that is lent says
--   shown_passes                  the passes that a journal holds, by their places
--   shown_stage                   a book in either state, with tables
--   shown_as                      a book with tables and passes
--   open_journal, frozen_journal  an open and a frozen book with tables and passes
use Rattle.std.specs.Prelude.{List, map, vec_items, Option}
use Rattle.std.specs.Borrow.{Bor}
use Rattle.std.specs.Option.{option_map}
use Rattle.book_rules.specs.Machine.{Pass}
use Rattle.book_rules.specs.Run.{State, opened, closed}
use Rattle.book.specs.declared.states.FrozenBook.{FrozenBook}
use Rattle.book.specs.declared.states.OpenBook.{OpenBook}
use Rattle.book.specs.declared.states.Pass.{Pass as Token}
use Rattle.book.specs.Shown.{open_book, frozen_book, pass_of}
use Rattle.journal_rules.specs.Journal.{Journal as Kept}
use Rattle.journal_book.specs.declared.states.Stage.{Stage}
use Rattle.journal_book.specs.declared.states.Stage.TheVariants.{Open, Frozen}
use Rattle.journal_book.specs.declared.states.Tables.{Tables}

abbrev pub shown_pass : Bor Token → Pass
shown_pass p = pass_of p.now

abbrev pub shown_passes : List (Option Token) → List (Option Pass)
shown_passes passes = map (option_map pass_of) passes

abbrev pub shown_stage : Stage → Tables → State
shown_stage (Open b) t = opened (open_book b) (vec_items t.units) (vec_items t.costs) (vec_items t.marks)
shown_stage (Frozen b) t = closed (frozen_book b) (vec_items t.units) (vec_items t.costs) (vec_items t.marks)

abbrev pub shown_as : Stage → Tables → Kept
shown_as stage t = record { state = shown_stage stage t; held = shown_passes (vec_items t.passes) }

abbrev pub open_journal : OpenBook → Tables → Kept
open_journal b t = shown_as (Open b) t

abbrev pub frozen_journal : FrozenBook → Tables → Kept
frozen_journal b t = shown_as (Frozen b) t
