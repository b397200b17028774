use Rattle.std.proofs.Common.{ℕ, ◌≤◌, List, Ok}
use Rattle.book_rules.specs.Run.{closed}
use Rattle.book.specs.Shown.{frozen_book}
use Rattle.statement_report.specs.Statement.{Makes}
use Rattle.statement_report.proofs.Making.{lines_before, bytes_before}
use Rattle.statement_report.proofs.Settled.put_lines.Given as goal

abbrev pub invariant-loop-line : goal.invariant-loop-line
invariant-loop-line l =
    ((marks : List ℕ) → Makes (lines_before (closed (frozen_book l.self.book.now) l.self.units.now l.self.costs.now marks) l.line) l.initial.text 0 (Ok l.place) l.text)
    × (l.place ≤ bytes_before l.line)
