use Rattle.std.proofs.Common.{◌+◌, slice_set}
use Rattle.book_rules.specs.Machine.{with_units}
use Rattle.book_rules.specs.Run.{row, with_unit_rows, opened}
use Rattle.book.specs.Shown.{open_book}
use Rattle.book.proofs.Outcomes.{refused_row, outcome_accepted}
use Rattle.book.proofs.states.OpenBook.post.Goals as goal

pub returns-in_err-at : goal.returns-in_err-at
returns-in_err-at c = λ costs.
    let s = opened (open_book c.args.self.now) c.args.units.now costs c.args.marks.now in
    refused_row _ _ s _ _ c.in_err-at.field-0.0 c.from_residual.result c.in_err-at.ensures.place c.from_residual.ensures.1

pub returns : goal.returns
returns c = λ costs.
    let s = opened (open_book c.args.self.now) c.args.units.now costs c.args.marks.now in
    outcome_accepted _ _ s _ (λ at. with_unit_rows s (with_units s.book (at + 1)) (slice_set s.units at c.args.row)) row c.in_ok-at.ensures.place
