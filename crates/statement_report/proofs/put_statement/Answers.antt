use Rattle.std.proofs.Common.{subst}
use Rattle.book.specs.Shown.{frozen_book}
use Rattle.statement_report.specs.Statement.{Makes}
use Rattle.statement_report.proofs.Making.{settled_lines}
use Rattle.statement_report.proofs.put_statement.Goals as goal

pub returns-clause-makes : goal.returns-clause-makes
returns-clause-makes c =
    let after = c.settle_file.new in
    let b = frozen_book c.in_ok-book.book in
    let same = settled_lines c.args.file.now c.in_ok-sizes.sizes b after.units after.costs after.marks c.in_ok-sizes.ensures c.in_ok-book.ensures in
    subst (λ t. Makes t c.args.text.now 0 c.put_lines.result c.put_lines.new.text) same (c.put_lines.ensures.makes after.marks)
