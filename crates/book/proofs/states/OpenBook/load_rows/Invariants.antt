use Rattle.std.proofs.Common.{◌≡◌, ◌-◌, length}
use Rattle.book_rules.specs.Run.{opened}
use Rattle.book.specs.Load.{load_from}
use Rattle.book.specs.Shown.{open_book, pass_of}
use Rattle.book.proofs.Loads.{Sofar}
use Rattle.book.proofs.states.OpenBook.load_rows.Given as goal

abbrev pub invariant-loop-record : goal.invariant-loop-record
invariant-loop-record l =
    (l.reader.bytes.now ≡ l.fn.reader.bytes.now)
    × Sofar l.fn.reader.bytes.now (pass_of l.pass) (opened (open_book l.initial.self) l.initial.units l.initial.costs l.marks)
    (load_from (length l.fn.reader.bytes.now) l.fn.reader.bytes.now (pass_of l.pass) (opened (open_book l.initial.self) l.initial.units l.initial.costs l.marks) l.fn.reader.place 0)
    (opened (open_book l.self) l.units l.costs l.marks) l.reader.place l.report.rows
    × (l.report.place ≡ l.reader.place)

abbrev pub decreases-loop-record : goal.decreases-loop-record
decreases-loop-record l = length l.fn.reader.bytes.now - l.reader.place
