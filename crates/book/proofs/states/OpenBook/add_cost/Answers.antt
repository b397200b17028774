use Rattle.book_rules.specs.Run.{opened}
use Rattle.book.specs.Shown.{open_book}
use Rattle.book.proofs.Outcomes.{refused_row}
use Rattle.book.proofs.states.OpenBook.add_cost.Goals as goal

pub returns-in_err-at : goal.returns-in_err-at
returns-in_err-at c = λ units.
    let s = opened (open_book c.args.self.now) units c.args.costs.now c.args.marks.now in
    refused_row _ _ s _ _ c.in_err-at.field-0.0 c.from_residual.result c.in_err-at.ensures.place c.from_residual.ensures.1
