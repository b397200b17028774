use Rattle.std.proofs.Common.{◌≡◌, get_or, None, vec_items, rules}
use Rattle.journal_book.proofs.Holding.{after_taking}
use Rattle.journal_book.proofs.passes.take_pass.Goals as goal

pub returns-clause-after : goal.returns-clause-after
returns-clause-after c =
    let passes = vec_items c.args.passes.now in
    let place = c.in_ok-place_of.field-0 in
    let held : c.take.result ≡ get_or passes place None = search rules in
    after_taking passes c.args.number place c.take.result c.take.new.self None c.in_ok-place_of.ensures held c.take.ensures.after
